use Rattle.std.proofs.Common.{rules, ℕ, List, ◌++◌, append-nil, ap, ◌∙◌}
use Rattle.std.proofs.Output.{has_written_append, has_written_styled_append}
use Rattle.chrono_pattern.proofs.delayed_format.add_literal.Goals as goal

pub returns-clause-added : goal.returns-clause-added
returns-clause-added g c = record {
  printed = c.args.piece.now ++ c.args.literal.now;
  whole = λ ok. ap (λ (l : List ℕ). (c.args.piece.now ++ c.args.literal.now) ++ l) c.clear.ensures ∙ append-nil (c.args.piece.now ++ c.args.literal.now);
  plain = λ plain ok. let so_far = c.print.ensures.writes plain (search rules) in has_written_append _ _ _ _ _ _ so_far (c.write_str.ensures.writes so_far.plain ok);
  styled = λ flush ok. let so_far = c.print.ensures.styled flush (search rules) in has_written_styled_append _ _ _ _ _ _ so_far (c.write_str.ensures.styled so_far.flush ok);
}
