use Rattle.std.proofs.Common.{rules}
use Rattle.chrono_columns.proofs.TextEntries.{more-read}
use Rattle.chrono_columns.proofs.texts.read_dates.Goals as goal

pub loop-i-preserved : goal.loop-i-preserved
loop-i-preserved c = more-read c.args.texts.now c.loop-i.out c.loop-i.i _ (search rules) c.loop-i.invariant (search rules)
