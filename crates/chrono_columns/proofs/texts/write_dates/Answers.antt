use Rattle.std.proofs.Common.{◌+◌, rules, arith}
use Rattle.chrono_columns.proofs.Blocks.{block-written}
use Rattle.chrono_columns.proofs.texts.write_dates.Goals as goal

pub loop-begun-preserved : goal.loop-begun-preserved
loop-begun-preserved c =
    let begun = c.loop-begun.begun in
    record {
      within = search rules;
      written = block-written c.args.dates.now c.loop-begun.texts c.write_block.new.texts begun (begun + c.min.result) (omega arith) (search rules) (search rules) c.loop-begun.invariant.written c.write_block.ensures;
    }
