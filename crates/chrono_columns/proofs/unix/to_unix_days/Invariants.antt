use Rattle.std.proofs.Common.{◌≡◌, take, map}
use Rattle.chrono_columns.specs.Columns.{unix_days_entry}
use Rattle.chrono_columns.proofs.unix.to_unix_days.Given as goal

abbrev pub invariant-loop-i : goal.invariant-loop-i
invariant-loop-i l = take l.i l.out ≡ map unix_days_entry (take l.i l.dates)
