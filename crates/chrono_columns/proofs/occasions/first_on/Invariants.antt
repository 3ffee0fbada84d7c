use Rattle.std.proofs.Common.{◌≡◌, take, map}
use Rattle.chrono_columns.specs.Columns.{first_on_entry}
use Rattle.chrono_columns.proofs.occasions.first_on.Given as goal

abbrev pub invariant-loop-i : goal.invariant-loop-i
invariant-loop-i l = take l.i l.out ≡ map (first_on_entry l.weekdays) (take l.i l.dates)
