-- The days of leap years before a day.
use Rattle.std.specs.Prelude.{ℕ, Bool, if◌then◌else◌, ℤ, pos, ◌+ℤ◌, ◌-ℤ◌, ◌*ℤ◌}
use Rattle.chrono_datetime.specs.Years.{is_leap_year}
use Rattle.chrono_datetime.specs.Days.{year_of, ordinal_of}

-- of the o-th day n of a year y: 366 for each leap year between year 1 and y, and, if y is one, the days before n in y
abbrev pub leap_before_in : Bool → ℤ → ℕ → ℤ → ℤ
leap_before_in leap y o n =
    pos 366 *ℤ ((n -ℤ pos o) -ℤ pos 365 *ℤ (y -ℤ pos 1)) +ℤ (if leap then pos o -ℤ pos 1 else pos 0)

-- the days of leap years before the day n, less those before year 1
unfoldable pub leap_before : ℤ → ℤ
leap_before n = leap_before_in (is_leap_year (year_of n)) (year_of n) (ordinal_of n) n
