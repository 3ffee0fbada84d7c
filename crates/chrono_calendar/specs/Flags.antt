-- The numbers that store the flags of a year, and what the flags say of its weeks.
-- The flags repeat after 400 years, which have 146,097 days.
use Rattle.std.specs.Prelude.{◌≢◌, ℕ, ◌+◌, ◌%◌, ℤ, if◌then◌else◌, int_lt}
use Rattle.std.specs.Int.{IsInRange}
use Rattle.std.specs.Ordering.{int_eq}
use Rattle.chrono_units.specs.Years.{is_leap_year}
use Rattle.chrono_calendar.specs.Days.{days_before_year, day_number_of_yo, day_number_of_ymd}
use Rattle.chrono_calendar.specs.Weeks.{days_from_sunday_of, iso_year_of, iso_week_of}

-- the flags of the year y: 8 in a common year, and from 1 for Tuesday to 7 for Monday the weekday of the last day before it
unfoldable pub flags_of_year : ℤ → ℕ
flags_of_year y = (if is_leap_year y then 0 else 8) + ((days_from_sunday_of (days_before_year y) + 5) % 7 + 1)

-- the number stores the flags of a year: 1 to 7 those of a leap year, 9 to 15 those of a common year
abbrev pub IsYearFlags : ℕ → Type 0
IsYearFlags n = IsInRange 1 15 n × (n ≢ 8)

-- the weeks of the ISO year y: 28 December is always in the last of them
unfoldable pub weeks_of_iso_year : ℤ → ℕ
weeks_of_iso_year y = iso_week_of (day_number_of_ymd y 12 28)

-- the ISO year y has a w-th week
abbrev pub IsIsoWeek : ℤ → ℕ → Type 0
IsIsoWeek y w = IsInRange 1 (weeks_of_iso_year y) w

-- the ISO week of the o-th day of the year y, counted in that year. It is 0 for a day of the ISO year before. For a day of
-- the next ISO year it is one more than the weeks
unfoldable pub week_counted_in : ℤ → ℕ → ℕ
week_counted_in y o =
    let n = day_number_of_yo y o in
    if int_eq (iso_year_of n) y then iso_week_of n
    else (if int_lt (iso_year_of n) y then 0 else weeks_of_iso_year y + 1)
