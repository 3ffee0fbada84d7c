-- Tests of a day, kept shut so that goals stay short.
use Rattle.std.specs.Prelude.{ℤ, Bool}
use Rattle.std.specs.Ordering.{int_eq}
use Rattle.chrono_datetime.specs.Days.{year_of}
use Rattle.chrono_datetime.specs.WeekdaySet.{DaySet, contains}
use Rattle.chrono_datetime.specs.Weeks.{weekday_of}

-- the day n has a weekday of the week of work
unfoldable pub is_day_of_work : DaySet → ℤ → Bool
is_day_of_work week n = contains week (weekday_of n)

-- the day n is in the year y
unfoldable pub is_in_year : ℤ → ℤ → Bool
is_in_year y n = int_eq (year_of n) y
