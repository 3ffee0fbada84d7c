use Rattle.std.proofs.Common.{◌≡◌, take, map}
use Rattle.chrono_columns.specs.Columns.{year_entry, month_entry, day_entry}
use Rattle.chrono_columns.proofs.names.split_dates.Given as goal

abbrev pub invariant-loop-i : goal.invariant-loop-i
invariant-loop-i l = record {
  years : take l.i l.years ≡ map year_entry (take l.i l.dates);
  months : take l.i l.months ≡ map month_entry (take l.i l.dates);
  days : take l.i l.days ≡ map day_entry (take l.i l.dates);
}
