use Rattle.std.proofs.Common.{◌≡◌, take, map}
use Rattle.chrono_columns.specs.Columns.{ordinal_entry}
use Rattle.chrono_columns.proofs.names.ordinals.Given as goal

abbrev pub invariant-loop-i : goal.invariant-loop-i
invariant-loop-i l = take l.i l.out ≡ map ordinal_entry (take l.i l.dates)
