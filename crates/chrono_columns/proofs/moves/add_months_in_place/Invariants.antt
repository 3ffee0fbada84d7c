use Rattle.std.proofs.Common.{◌≡◌, ◌++◌, take, drop, map}
use Rattle.chrono_columns.specs.Columns.{months_later_entry}
use Rattle.chrono_columns.proofs.moves.add_months_in_place.Given as goal

-- the dates that are moved, and the others as they will be
abbrev pub invariant-loop-i : goal.invariant-loop-i
invariant-loop-i l = take l.i l.dates ++ map (months_later_entry l.months) (drop l.i l.dates) ≡ map (months_later_entry l.months) l.initial.dates
