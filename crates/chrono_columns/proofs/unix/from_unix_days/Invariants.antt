use Rattle.std.proofs.Common.{◌≡◌, take, map}
use Rattle.chrono_columns.specs.Columns.{unix_date_entry}
use Rattle.chrono_columns.proofs.unix.from_unix_days.Given as goal

abbrev pub invariant-loop-i : goal.invariant-loop-i
invariant-loop-i l = take l.i l.out ≡ map unix_date_entry (take l.i l.days)
