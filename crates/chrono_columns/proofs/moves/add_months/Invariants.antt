use Rattle.std.proofs.Common.{◌≡◌, take, map}
use Rattle.chrono_columns.specs.Columns.{months_later_entry}
use Rattle.chrono_columns.proofs.moves.add_months.Given as goal

abbrev pub invariant-loop-i : goal.invariant-loop-i
invariant-loop-i l = take l.i l.out ≡ map (months_later_entry l.months) (take l.i l.dates)
