-- The days of a year that a time zone rule names (POSIX.1-2017, Base Definitions, section 8.3, TZ).
use Rattle.std.specs.Prelude.{ℕ, ◌+◌, ◌-◌, ◌*◌, Bool, false, ◌&&◌, ◌==◌, nat_le, if◌then◌else◌, ℤ, Option}
use Rattle.chrono_units.specs.Years.{is_leap_year}
use Rattle.chrono_units.specs.declared.weekday.Weekday.{Weekday}
use Rattle.chrono_datetime.specs.Days.{date_of_yo, days_of_months_in}
use Rattle.chrono_datetime.specs.Weeks.{date_of_last_weekday, date_of_nth_weekday}
use Rattle.zone_rule.specs.declared.rule_day.RuleDay.{RuleDay}
use Rattle.zone_rule.specs.declared.rule_day.RuleDay.TheVariants.{Week, Julian, FromZero}

-- "the d'th day of week n of month m of the year (1 <= n <= 5), where week 5 means the last d day in month m"
abbrev pub date_of_week : ℤ → ℕ → ℕ → Weekday → Option ℤ
date_of_week y m n d = if n == 5 then date_of_last_weekday y m d else date_of_nth_weekday y m d n

-- "leap days shall not be counted. That is, in all years, including leap years, February 28 is day 59 and March 1 is day 60"
abbrev pub ordinal_of_julian : ℤ → ℕ → ℕ
ordinal_of_julian y n = if is_leap_year y && nat_le 60 n then n + 1 else n

-- the date of the day in the year y, if there is one
abbrev pub date_of_rule_day : ℤ → RuleDay → Option ℤ
date_of_rule_day y (Week m n d) = date_of_week y m n d
date_of_rule_day y (Julian n) = date_of_yo y (ordinal_of_julian y n)
-- "the zero-based Julian day (0 <= n <= 365). Leap days shall be counted"
date_of_rule_day y (FromZero n) = date_of_yo y (n + 1)

-- ---- the places that a rule's day has in the years, where 1 January has place 1

-- the least place of the n-th of some weekdays of a month, or of the last one, with so many days before the month
abbrev pub week_place : Bool → ℕ → ℕ → ℕ
week_place is_last before n = if is_last then before + 22 else before + 7 * n - 6

-- the least place of the day
abbrev pub least_place : RuleDay → ℕ
least_place (Week m n d) = week_place (n == 5) (days_of_months_in false (m - 1)) n
least_place (Julian n) = n
least_place (FromZero n) = n + 1

-- and how many days later it comes at most
abbrev pub days_later : RuleDay → ℕ
days_later (Week m n d) = if n == 5 then 10 else 7
days_later (Julian n) = 1
days_later (FromZero n) = 0
