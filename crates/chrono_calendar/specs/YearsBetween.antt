-- The whole years from one day to another, and the birthdays that they are counted by.
use Rattle.std.specs.Prelude.{ℕ, ◌-◌, Bool, ◌&&◌, ◌||◌, ◌==◌, nat_lt, int_lt, if◌then◌else◌, ℤ, pos, ◌+ℤ◌, ◌-ℤ◌, unsigned_abs, Option, Some, None}
use Rattle.chrono_calendar.specs.Days.{day_number_of_ymd, year_of, month_of, day_of}

-- in a year the day d of the month m comes before the day q of the month p
abbrev pub is_earlier_in_year : ℕ → ℕ → ℕ → ℕ → Bool
is_earlier_in_year m d p q = nat_lt m p || ((m == p) && nat_lt d q)

-- the years from the year of base to that of n, less one if n comes earlier in its year than base in its own. None if n is
-- before base
unfoldable pub years_between : ℤ → ℤ → Option ℕ
years_between n base =
    let years = unsigned_abs (year_of n -ℤ year_of base) in
    if int_lt n base then None
    else Some (
    if is_earlier_in_year (month_of n) (day_of n) (month_of base) (day_of base) then years - 1 else years)

-- k years after the day base, the day that stands as far behind the beginning of its month: of 29 February that is 1 March in a
-- common year
abbrev pub birthday : ℤ → ℕ → ℤ
birthday base k = day_number_of_ymd (year_of base +ℤ pos k) (month_of base) (day_of base)
