use Rattle.std.proofs.Common.{rules, ◌++◌}
use Rattle.std.proofs.Output.{has_written_append, has_written_of_eq, has_written_styled_append, has_written_styled_of_eq}
use Rattle.chrono_pattern.proofs.ItemLemmas.{text_of_none}
use Rattle.chrono_pattern.proofs.PatternLemmas.{all_written}
use Rattle.chrono_pattern.proofs.Utf8Lemmas.{added_grows, item_grows, literal_grows}
use Rattle.chrono_pattern.proofs.delayed_format.write_items.Goals as goal

pub returns-in-None-clause-writes : goal.returns-in-None-clause-writes
returns-in-None-clause-writes g c = λ plain ok.
    let held = c.loop-piece.invariant in
    let added = c.add_literal.ensures.added in
    let split = c.split_literal.ensures in
    let grown = added_grows held.0 added.printed _ _ _ _ _ (added.whole (search rules)) (literal_grows _ _ _ _ c.args.moment c.args.offset _ held.3 split.parts split.literal) in
    let all = all_written ((held.0 ++ added.printed) ++ c.add_literal.new.piece) _ _ grown (text_of_none _ c.args.moment c.args.offset c.in-None.ensures.none) in
    let front = held.1 plain in
    let so_far = has_written_append _ _ _ _ _ _ front (added.plain front.plain (search rules)) in
    has_written_of_eq _ _ _ _ _ all (has_written_append _ _ _ _ _ _ so_far (c.print.ensures.writes so_far.plain ok))

pub returns-in-None-clause-styled : goal.returns-in-None-clause-styled
returns-in-None-clause-styled g c = λ flush ok.
    let held = c.loop-piece.invariant in
    let added = c.add_literal.ensures.added in
    let split = c.split_literal.ensures in
    let grown = added_grows held.0 added.printed _ _ _ _ _ (added.whole (search rules)) (literal_grows _ _ _ _ c.args.moment c.args.offset _ held.3 split.parts split.literal) in
    let all = all_written ((held.0 ++ added.printed) ++ c.add_literal.new.piece) _ _ grown (text_of_none _ c.args.moment c.args.offset c.in-None.ensures.none) in
    let front = held.2 flush in
    let so_far = has_written_styled_append _ _ _ _ _ _ front (added.styled front.flush (search rules)) in
    has_written_styled_of_eq _ _ _ _ _ all (has_written_styled_append _ _ _ _ _ _ so_far (c.print.ensures.styled so_far.flush ok))

pub loop-piece-preserved : goal.loop-piece-preserved
loop-piece-preserved g c =
    let held = c.loop-piece.invariant in
    let literal = c.add_literal.ensures.added in
    let item = c.add_item.ensures.added in
    let split = c.split_literal.ensures in
    let first = added_grows held.0 literal.printed _ _ _ _ _ (literal.whole (search rules)) (literal_grows _ _ _ _ c.args.moment c.args.offset _ held.3 split.parts split.literal) in
    let second = added_grows (held.0 ++ literal.printed) item.printed _ _ _ _ _ (item.whole (search rules)) (item_grows _ _ _ _ c.in-Some.item c.args.moment c.args.offset first c.in-Some.ensures.item) in (
      (held.0 ++ literal.printed) ++ item.printed,
      λ plain.
          let front = held.1 plain in
          let so_far = has_written_append _ _ _ _ _ _ front (literal.plain front.plain (search rules)) in
          has_written_append _ _ _ _ _ _ so_far (item.plain so_far.plain (search rules)),
      λ flush.
          let front = held.2 flush in
          let so_far = has_written_styled_append _ _ _ _ _ _ front (literal.styled front.flush (search rules)) in
          has_written_styled_append _ _ _ _ _ _ so_far (item.styled so_far.flush (search rules)),
      second,
      c.add_item.ensures.ascii (search rules),
      search rules,
    )
