-- Years and months of the proleptic Gregorian calendar (ISO 8601-1, 4.2.1), whose year 0 is the year before year 1.
use Rattle.std.specs.Prelude.{ℕ, ◌%◌, Bool, not, ◌&&◌, ◌||◌, ◌==◌, if◌then◌else◌, int_le, ℤ, pos, neg_ℤ, ◌≤ℤ◌, unsigned_abs}

-- the number k divides z
abbrev pub divides : ℕ → ℤ → Bool
divides k z = unsigned_abs z % k == 0

-- every fourth year is leap, but of the centuries only every fourth
abbrev pub is_leap_year : ℤ → Bool
is_leap_year y = divides 4 y && (not (divides 100 y) || divides 400 y)

-- the days of a year
abbrev pub year_length : ℤ → ℕ
year_length y = if is_leap_year y then 366 else 365

-- the days of the month m, from 1 for January, in a leap year or in a common year. April, June, September and November
-- have 30, February has 28 or 29, and the others 31
abbrev pub month_length_in : Bool → ℕ → ℕ
month_length_in leap m =
    if m == 2 then (if leap then 29 else 28)
    else (if (m == 4) || (m == 6) || (m == 9) || (m == 11) then 30 else 31)

-- the days of the month m of the year y
abbrev pub month_length : ℤ → ℕ → ℕ
month_length y m = month_length_in (is_leap_year y) m

-- whether y is a year of the library, from -262,143 to 262,142
abbrev pub is_year : ℤ → Bool
is_year y = int_le (neg_ℤ (pos 262_143)) y && int_le y (pos 262_142)

-- y is a year of the library
abbrev pub IsYear : ℤ → Type 0
IsYear y = (neg_ℤ (pos 262_143) ≤ℤ y) × (y ≤ℤ pos 262_142)
