use Rattle.std.proofs.Common.{◌∙◌, to_z, of_z, w32, rules}
use Rattle.chrono_columns.specs.Columns.{later_entry}
use Rattle.chrono_columns.proofs.InPlace.{moved_on}
use Rattle.chrono_columns.proofs.moves.add_days_in_place.Goals as goal

pub loop-i-preserved : goal.loop-i-preserved
loop-i-preserved c = moved_on (later_entry (to_z w32 (of_z w32 c.args.days))) c.loop-i.dates c.loop-i.i _ (search rules) (search rules) ∙ c.loop-i.invariant
