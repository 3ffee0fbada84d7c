-- What the tables of the calendar say, by counting.
use Rattle.std.specs.Prelude.{ℕ, zero, suc, ◌+◌, ◌-◌, ◌*◌, ◌/◌, ◌%◌, Bool, ◌&&◌, ◌==◌, if◌then◌else◌, nat_le, pos}
use Rattle.chrono_units.specs.Years.{is_leap_year, month_length_in}
use Rattle.chrono_calendar.specs.Days.{days_of_months_in, month_of_ordinal, day_of_ordinal}

-- how many of the years 0 to n - 1 are leap years
unfoldable pub leap_years_before : ℕ → ℕ
leap_years_before zero = 0
leap_years_before (suc n) = leap_years_before n + (if is_leap_year (pos n) then 1 else 0)

-- an ordinal with its year's length as one number, whose last digit is 1 in a common year
abbrev pub ol_of : Bool → ℕ → ℕ
ol_of leap o = o * 2 + (if leap then 0 else 1)

-- a month and a day with their year's length as one number
abbrev pub mdl_of : Bool → ℕ → ℕ → ℕ
mdl_of leap m d = m * 64 + d * 2 + (if leap then 0 else 1)

-- the month m of a leap year or of a common year has a day d
abbrev pub is_day_of_month : Bool → ℕ → ℕ → Bool
is_day_of_month leap m d = (nat_le 1 m && nat_le m 12) && (nat_le 1 d && nat_le d (month_length_in leap m))

-- how far such a number of a month and a day lies above that of their ordinal, or 0 if the calendar has no such day
unfoldable pub mdl_adjustment : ℕ → ℕ
mdl_adjustment n =
    let leap = n % 2 == 0 in
    let m = n / 64 in
    let d = n / 2 % 32 in
    if is_day_of_month leap m d then n - ol_of leap (days_of_months_in leap (m - 1) + d) else 0

-- the same, from the number of the ordinal
unfoldable pub ol_adjustment : ℕ → ℕ
ol_adjustment n =
    let leap = n % 2 == 0 in
    let o = n / 2 in
    mdl_of leap (month_of_ordinal leap o) (day_of_ordinal leap o) - n
