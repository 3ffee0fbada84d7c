-- Laws of numbers, names and weeks. Each date has one number and one name of each kind. Names lie in the order of the
-- days. A week has one first day.
use Rattle.std.specs.Prelude.{◌≡◌, ℕ, ℤ, pos, ◌+ℤ◌, ◌≤ℤ◌, ◌<ℤ◌, Some, ◌↔◌}
use Rattle.std.specs.Ordering.{int_cmp, nat_cmp, ordering_then}
use Rattle.std.specs.declared.cmp.Ordering.{Ordering}
use Rattle.chrono_units.specs.Years.{IsYear}
use Rattle.chrono_units.specs.declared.weekday.Weekday.{Weekday}
use Rattle.chrono_units.specs.Weekday.{days_from_monday}
use Rattle.chrono_calendar.specs.Days.{IsDate, date_of_day, date_of_ymd, date_of_yo, year_of, month_of, day_of, ordinal_of}
use Rattle.chrono_calendar.specs.Weeks.{date_of_iso, iso_year_of, iso_week_of, week_first_of, weekday_of}

-- a date has its own number, and no other number has it
abbrev pub DatesHaveOneNumber : Type 0
DatesHaveOneNumber = (n m : ℤ) → (date_of_day m ≡ Some n) ↔ (IsDate n × (m ≡ n))

-- the dates are the days of the library's years
abbrev pub DatesAreDaysOfYears : Type 0
DatesAreDaysOfYears = (n : ℤ) → IsDate n ↔ IsYear (year_of n)

-- a date is named by its year, its month and its day of the month, and by no others
abbrev pub DatesHaveOneCalendarName : Type 0
DatesHaveOneCalendarName =
    (n y : ℤ) (m d : ℕ) → IsDate n →
    (date_of_ymd y m d ≡ Some n) ↔ ((y ≡ year_of n) × (m ≡ month_of n) × (d ≡ day_of n))

-- a date is named by its year and its ordinal, and by no others
abbrev pub DatesHaveOneOrdinalName : Type 0
DatesHaveOneOrdinalName =
    (n y : ℤ) (o : ℕ) → IsDate n →
    (date_of_yo y o ≡ Some n) ↔ ((y ≡ year_of n) × (o ≡ ordinal_of n))

-- a date is named by its ISO year, its week and its weekday, and by no others
abbrev pub DatesHaveOneIsoName : Type 0
DatesHaveOneIsoName =
    (n y : ℤ) (w : ℕ) (d : Weekday) → IsDate n →
    (date_of_iso y w d ≡ Some n) ↔ ((y ≡ iso_year_of n) × (w ≡ iso_week_of n) × (d ≡ weekday_of n))

-- how the ISO names of two days compare: by ISO year, then week, then weekday from Monday on
unfoldable pub iso_cmp : ℤ → ℤ → Ordering
iso_cmp n m =
    ordering_then (int_cmp (iso_year_of n) (iso_year_of m))
    (ordering_then (nat_cmp (iso_week_of n) (iso_week_of m))
    (nat_cmp (days_from_monday (weekday_of n)) (days_from_monday (weekday_of m))))

-- m is the first day of the week that begins on the weekday start and holds n. This is so exactly if m has that weekday
-- and n is one of the seven days from m on
abbrev pub WeeksHaveOneFirstDay : Type 0
WeeksHaveOneFirstDay =
    (n m : ℤ) (start : Weekday) →
    (m ≡ week_first_of n start) ↔ ((weekday_of m ≡ start) × (m ≤ℤ n) × (n <ℤ (m +ℤ pos 7)))
