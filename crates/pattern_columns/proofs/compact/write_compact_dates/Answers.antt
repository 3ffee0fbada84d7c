use Rattle.std.proofs.Common.{◌≡◌, ◌+◌, [], pos, rules, arith}
use Rattle.pattern_columns.specs.Layouts.{compact_text, entry_by}
use Rattle.pattern_columns.proofs.ColumnBlocks.{all-written, block-written}
use Rattle.pattern_columns.proofs.compact.write_compact_dates.Goals as goal

pub loop-begun-preserved : goal.loop-begun-preserved
loop-begun-preserved c =
    let begun = c.loop-begun.begun in
    record {
      within = search rules;
      written = block-written (λ n t. t ≡ entry_by 8 compact_text n) (pos 0) [] c.args.dates.now c.loop-begun.texts c.write_compact_block.new.texts begun (begun + c.min.result) (omega arith) (search rules) (search rules) (search rules) c.loop-begun.invariant.written c.write_compact_block.ensures;
    }

pub returns : goal.returns
returns c = all-written 8 compact_text c.args.dates.now c.loop-begun.texts (search rules) (λ k h. c.loop-begun.invariant.written k (search rules))
