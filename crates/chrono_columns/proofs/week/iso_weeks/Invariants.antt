use Rattle.std.proofs.Common.{◌≡◌, take, map}
use Rattle.chrono_columns.specs.Columns.{iso_year_entry, iso_week_entry}
use Rattle.chrono_columns.proofs.week.iso_weeks.Given as goal

abbrev pub invariant-loop-i : goal.invariant-loop-i
invariant-loop-i l = record {
  years : take l.i l.years ≡ map iso_year_entry (take l.i l.dates);
  weeks : take l.i l.weeks ≡ map iso_week_entry (take l.i l.dates);
}
