-- Days of the proleptic Gregorian calendar as whole numbers: 1 January of year 1 is 1.
use Rattle.std.specs.Prelude.{ℕ, zero, suc, ◌+◌, ◌-◌, Bool, ◌&&◌, if◌then◌else◌, nat_lt, nat_le, ℤ, pos, negsuc, neg_ℤ, ◌+ℤ◌, ◌-ℤ◌, ◌≤ℤ◌, int_le, List, [], ◌∷◌, count_by, Option, Some, None}
use Rattle.std.specs.Int.{IsInRange}
use Rattle.chrono_units.specs.Years.{is_leap_year, year_length, month_length_in, month_length, is_year}

-- the days of n years in a row, the first of which is y
unfoldable pub days_of_years : ℤ → ℕ → ℕ
days_of_years y zero = 0
days_of_years y (suc n) = days_of_years y n + year_length (y +ℤ pos n)

-- the days before 1 January of the year y, counted from 1 January of year 1. They are those of the years 1 to y - 1. For
-- a year before 1 they are those of the years y to 0, as a negative number
unfoldable pub days_before_year : ℤ → ℤ
days_before_year (pos zero) = neg_ℤ (pos (days_of_years (pos 0) 1))
days_before_year (pos (suc n)) = pos (days_of_years (pos 1) n)
days_before_year (negsuc n) = neg_ℤ (pos (days_of_years (negsuc n) (n + 2)))

-- the days of the first n months of a leap year or of a common year
unfoldable pub days_of_months_in : Bool → ℕ → ℕ
days_of_months_in leap zero = 0
days_of_months_in leap (suc n) = days_of_months_in leap n + month_length_in leap (suc n)

-- the days of the first n months of the year y
abbrev pub days_of_months : ℤ → ℕ → ℕ
days_of_months y n = days_of_months_in (is_leap_year y) n

-- the calendar has a day d in a month m of the year y
abbrev pub is_calendar_name : ℤ → ℕ → ℕ → Bool
is_calendar_name y m d = (nat_le 1 m && nat_le m 12) && (nat_le 1 d && nat_le d (month_length y m))

-- the month m is from 1 to 12, and the day d one of that month (ISO 8601 calendar date)
abbrev pub IsCalendarName : ℤ → ℕ → ℕ → Type 0
IsCalendarName y m d = IsInRange 1 12 m × IsInRange 1 (month_length y m) d

-- the calendar has an o-th day in the year y
abbrev pub is_ordinal_name : ℤ → ℕ → Bool
is_ordinal_name y o = nat_le 1 o && nat_le o (year_length y)

-- the ordinal o is from 1 to the days of the year y (ISO 8601 ordinal date)
abbrev pub IsOrdinalName : ℤ → ℕ → Type 0
IsOrdinalName y o = IsInRange 1 (year_length y) o

-- the number of the o-th day of the year y
abbrev pub day_number_of_yo : ℤ → ℕ → ℤ
day_number_of_yo y o = days_before_year y +ℤ pos o

-- the place in its year of the day d of the month m
abbrev pub ordinal_of_ymd : ℤ → ℕ → ℕ → ℕ
ordinal_of_ymd y m d = days_of_months y (m - 1) + d

-- the number of the day d of the month m of the year y
abbrev pub day_number_of_ymd : ℤ → ℕ → ℕ → ℤ
day_number_of_ymd y m d = day_number_of_yo y (ordinal_of_ymd y m d)

-- whether n is the number of a date, from -95,746,129 to 95,745,399
abbrev pub is_date : ℤ → Bool
is_date n = int_le (neg_ℤ (pos 95_746_129)) n && int_le n (pos 95_745_399)

-- n is the number of a date, from -95,746,129 to 95,745,399
abbrev pub IsDate : ℤ → Type 0
IsDate n = (neg_ℤ (pos 95_746_129) ≤ℤ n) × (n ≤ℤ pos 95_745_399)

-- the date with a day number, if there is one
unfoldable pub date_of_day : ℤ → Option ℤ
date_of_day n = if is_date n then Some n else None

-- the date with an ordinal name, if there is one
unfoldable pub date_of_yo : ℤ → ℕ → Option ℤ
date_of_yo y o = if is_year y && is_ordinal_name y o then Some (day_number_of_yo y o) else None

-- the date with a calendar name, if there is one
unfoldable pub date_of_ymd : ℤ → ℕ → ℕ → Option ℤ
date_of_ymd y m d = if is_year y && is_calendar_name y m d then Some (day_number_of_ymd y m d) else None

-- a day by its year and its place there
pub record OrdinalName : Type 0 where
  pub year : ℤ
  pub ordinal : ℕ

-- the day after
abbrev pub next_day : OrdinalName → OrdinalName
next_day a =
    if nat_lt a.ordinal (year_length a.year) then record { year = a.year; ordinal = a.ordinal + 1 }
    else record { year = a.year +ℤ pos 1; ordinal = 1 }

-- the day before
abbrev pub previous_day : OrdinalName → OrdinalName
previous_day a =
    if nat_lt 1 a.ordinal then record { year = a.year; ordinal = a.ordinal - 1 }
    else record { year = a.year -ℤ pos 1; ordinal = year_length (a.year -ℤ pos 1) }

-- the day n days after the day 0, which is 31 December of year 0
unfoldable pub days_after_zero : ℕ → OrdinalName
days_after_zero zero = record { year = pos 0; ordinal = 366 }
days_after_zero (suc n) = next_day (days_after_zero n)

-- the day n days before the day 0
unfoldable pub days_before_zero : ℕ → OrdinalName
days_before_zero zero = record { year = pos 0; ordinal = 366 }
days_before_zero (suc n) = previous_day (days_before_zero n)

-- the year and the ordinal of the day n, by walking day after day
unfoldable pub ordinal_name_of : ℤ → OrdinalName
ordinal_name_of (pos n) = days_after_zero n
ordinal_name_of (negsuc n) = days_before_zero (suc n)

-- the year of the day n
abbrev pub year_of : ℤ → ℤ
year_of n = (ordinal_name_of n).year

-- the place of the day n in its year, from 1
abbrev pub ordinal_of : ℤ → ℕ
ordinal_of n = (ordinal_name_of n).ordinal

-- the numbers of months that can stand before a month
abbrev pub first_twelve : List ℕ
first_twelve = 0 ∷ 1 ∷ 2 ∷ 3 ∷ 4 ∷ 5 ∷ 6 ∷ 7 ∷ 8 ∷ 9 ∷ 10 ∷ 11 ∷ []

-- the month of the o-th day of a leap year or of a common year: how many months begin on or before it
unfoldable pub month_of_ordinal : Bool → ℕ → ℕ
month_of_ordinal leap o = count_by (λ n. nat_lt (days_of_months_in leap n) o) first_twelve

-- and its place in that month
unfoldable pub day_of_ordinal : Bool → ℕ → ℕ
day_of_ordinal leap o = o - days_of_months_in leap (month_of_ordinal leap o - 1)

-- the month of the day n, from 1 for January
abbrev pub month_of : ℤ → ℕ
month_of n = month_of_ordinal (is_leap_year (year_of n)) (ordinal_of n)

-- the place of the day n in its month, from 1
abbrev pub day_of : ℤ → ℕ
day_of n = day_of_ordinal (is_leap_year (year_of n)) (ordinal_of n)
