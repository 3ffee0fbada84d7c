use Rattle.std.proofs.Common.{◌≡◌, take, count_by}
use Rattle.chrono_calendar.specs.Days.{is_date}
use Rattle.chrono_columns.proofs.counts.count_dates.Given as goal

abbrev pub invariant-loop-i : goal.invariant-loop-i
invariant-loop-i l = l.count ≡ count_by is_date (take l.i l.dates)
