-- A month and a day with the flags of a year, and the number that stores them.
use Rattle.std.proofs.Common.{arith}
use Rattle.std.specs.Prelude.{◌≡◌, ℕ, ◌+◌, ◌-◌, ◌*◌, ◌/◌, ◌%◌, Bool, nat_lt}
use Rattle.std.specs.Int.{IsInRange}
use Rattle.chrono_units.specs.Years.{month_length_in}
use Rattle.chrono_calendar.specs.Days.{days_of_months_in, month_of_ordinal, day_of_ordinal}

-- a month, a day and flags, which need not be those of a real day
pub record MonthDayFlags : Type 0 where
  pub month : ℕ
  pub day : ℕ
  pub flags : ℕ

-- the number that stores them: the month above nine binary digits, the day above four, and the flags
abbrev pub stored_month_day : MonthDayFlags → ℕ
stored_month_day a = a.month * 512 + a.day * 16 + a.flags

-- what such a number stores
abbrev pub month_day_stored : ℕ → MonthDayFlags
month_day_stored n = record { month = n / 512; day = n / 16 % 32; flags = n % 16 }

pub stored_month_day-stored : (n : ℕ) → stored_month_day (month_day_stored n) ≡ n
stored_month_day-stored n = omega arith

-- the flags are those of a leap year
abbrev pub is_leap_flags : ℕ → Bool
is_leap_flags f = nat_lt f 8

-- a year of these flags has this day in this month
abbrev pub IsDayOfMonth : MonthDayFlags → Type 0
IsDayOfMonth a = IsInRange 1 12 a.month × IsInRange 1 (month_length_in (is_leap_flags a.flags) a.month) a.day

-- the place in the year of a month's day, in a year of these flags
abbrev pub ordinal_of_month_day : MonthDayFlags → ℕ
ordinal_of_month_day a = days_of_months_in (is_leap_flags a.flags) (a.month - 1) + a.day

-- the month and the day of an ordinal
abbrev pub month_day_of_ordinal : ℕ → ℕ → MonthDayFlags
month_day_of_ordinal o f = record {
  month = month_of_ordinal (is_leap_flags f) o;
  day = day_of_ordinal (is_leap_flags f) o;
  flags = f;
}
