-- Day counts: the part of a year from one day to another as a fraction (ISDA 2006 Definitions, section 4.16).
use Rattle.std.specs.Prelude.{ℕ, Bool, not, ◌&&◌, ◌==◌, nat_lt, if◌then◌else◌, ℤ, pos, ◌+ℤ◌, ◌-ℤ◌, ◌*ℤ◌}
use Rattle.chrono_datetime.specs.Years.{is_leap_year}
use Rattle.chrono_datetime.specs.Days.{year_of, month_of, day_of}
use Rattle.chrono_datetime.specs.Recurrence.{count_between}

-- days of 30-day months: 360 for each year, 30 for each month, and the days first and last of them
abbrev pub days_of_360 : ℤ → ℤ → ℕ → ℕ → ℤ
days_of_360 a b first last =
    (pos 360 *ℤ (year_of b -ℤ year_of a) +ℤ pos 30 *ℤ (pos (month_of b) -ℤ pos (month_of a))) +ℤ (pos last -ℤ pos first)

-- the 31st is taken for the 30th
abbrev pub at_most_30 : ℕ → ℕ
at_most_30 d = if d == 31 then 30 else d

-- the numerator over 360 of "30/360" or "Bond Basis", section 4.16(f). The first day is at most the 30th. If the first
-- is later than the 29th, the last is at most the 30th too
abbrev pub days_30_360 : ℤ → ℤ → ℤ
days_30_360 a b =
    days_of_360 a b (at_most_30 (day_of a))
    (if (day_of b == 31) && nat_lt 29 (day_of a) then 30 else day_of b)

-- the numerator over 360 of "30E/360" or "Eurobond Basis", section 4.16(g): both days are at most the 30th
abbrev pub days_30e_360 : ℤ → ℤ → ℤ
days_30e_360 a b = days_of_360 a b (at_most_30 (day_of a)) (at_most_30 (day_of b))

-- the day n lies in a leap year
abbrev pub in_leap_year : ℤ → Bool
in_leap_year n = is_leap_year (year_of n)

-- how many of the days from a to before b pass the test; if b is before a those from b to before a, as a negative number
abbrev pub days_passing : (ℤ → Bool) → ℤ → ℤ → ℤ
days_passing p a b = pos (count_between p a b) -ℤ pos (count_between p b a)

-- the numerator over 365 times 366 of "Actual/Actual (ISDA)", section 4.16(b): each day of a leap year is a 366th of a
-- year, each other day a 365th
abbrev pub days_actual_actual : ℤ → ℤ → ℤ
days_actual_actual a b = pos 365 *ℤ days_passing in_leap_year a b +ℤ pos 366 *ℤ days_passing (λ n. not (in_leap_year n)) a b
