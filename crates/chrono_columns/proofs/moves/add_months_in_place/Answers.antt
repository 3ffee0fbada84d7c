use Rattle.std.proofs.Common.{◌∙◌, to_z, of_z, w32, rules}
use Rattle.chrono_columns.specs.Columns.{months_later_entry}
use Rattle.chrono_columns.proofs.InPlace.{moved_on}
use Rattle.chrono_columns.proofs.moves.add_months_in_place.Goals as goal

pub loop-i-preserved : goal.loop-i-preserved
loop-i-preserved c = moved_on (months_later_entry (to_z w32 (of_z w32 c.args.months))) c.loop-i.dates c.loop-i.i _ (search rules) (search rules) ∙ c.loop-i.invariant
