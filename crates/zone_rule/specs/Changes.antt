-- When a clock is set in each year (POSIX.1-2017, Base Definitions, section 8.3, TZ).
use Rattle.std.specs.Prelude.{◌≡◌, ◌≤◌, ◌<◌, ℕ, ◌+◌, ◌-◌, if◌then◌else◌, ℤ, pos, neg_ℤ, ◌+ℤ◌, ◌-ℤ◌, ◌*ℤ◌, ◌≤ℤ◌, ◌<ℤ◌, int_le, unsigned_abs, List, get_or}
use Rattle.std.specs.Int.{IsInRange, int_div_euclid}
use Rattle.chrono_clock.specs.Time.{seconds_per_day}
use Rattle.chrono_datetime.specs.Days.{day_number_of_ymd, day_number_of_yo, year_of}
use Rattle.chrono_datetime.specs.Fields.{unix_epoch_day}
use Rattle.chrono_datetime.specs.Weeks.{days_with_weekday}
use Rattle.zone_rule.specs.RuleDays.{days_later, least_place, ordinal_of_julian}
use Rattle.zone_rule.specs.declared.rule_day.RuleDay.{RuleDay}
use Rattle.zone_rule.specs.declared.rule_day.RuleDay.TheVariants.{Week, Julian, FromZero}

-- the numbers of a day are in range: months from 1 to 12, weeks from 1 to 5, days from 1 to 365 or from 0 to 365
abbrev pub IsRuleDay : RuleDay → Type 0
IsRuleDay (Week m n d) = IsInRange 1 12 m × IsInRange 1 5 n
IsRuleDay (Julian n) = IsInRange 1 365 n
IsRuleDay (FromZero n) = n ≤ 365

-- a day of each year, and the seconds from its midnight to the change, which may lie on another day
pub record YearlyChange : Type 0 where
  pub day : RuleDay
  pub second : ℤ

-- the day is one, and the hours "range from -167 through 167" (RFC 9636, section 3.3.1)
pub record IsChange (c : YearlyChange) : Type 0 where
  pub day : IsRuleDay c.day
  pub second : unsigned_abs c.second < 604_800

-- the n-th of some days; if there is no fifth, the fourth, which is the last one
abbrev pub nth_or_last : List ℕ → ℕ → ℕ
nth_or_last days n = get_or days (n - 1) (get_or days (n - 2) 0)

-- the number of the day in the year y
unfoldable pub day_in_year : ℤ → RuleDay → ℤ
day_in_year y (Week m n d) = day_number_of_ymd y m (nth_or_last (days_with_weekday y m d) n)
day_in_year y (Julian n) = day_number_of_yo y (ordinal_of_julian y n)
day_in_year y (FromZero n) = day_number_of_yo y (n + 1)

-- y is a year of the cycle from 1970 to 2369, or one near it
abbrev pub IsYearOfCycle : ℤ → Type 0
IsYearOfCycle y = (pos 1_900 ≤ℤ y) × (y ≤ℤ pos 2_500)

-- the second of the change in the year y, where the clock before it is so far ahead of UTC
abbrev pub change_second : ℤ → YearlyChange → ℤ → ℤ
change_second offset c y =
    (day_in_year y c.day -ℤ unix_epoch_day) *ℤ pos seconds_per_day +ℤ c.second -ℤ offset

-- the year of the second u in UTC
abbrev pub year_of_second : ℤ → ℤ
year_of_second u = year_of (unix_epoch_day +ℤ int_div_euclid u (pos seconds_per_day))

-- where y is the year of the second u, the last second up to u that a yearly change has: it is that of one of four years
abbrev pub last_by : (ℤ → ℤ) → ℤ → ℤ → ℤ
last_by second y u =
    if int_le (second (y +ℤ pos 1)) u then second (y +ℤ pos 1)
    else if int_le (second y) u then second y
    else if int_le (second (y -ℤ pos 1)) u then second (y -ℤ pos 1)
    else second (y -ℤ pos 2)

-- t is the first second after s that a yearly change has
pub record IsNextOf (second : ℤ → ℤ) (s t : ℤ) : Type 0 where
  pub later : s <ℤ t
  pub comes : (y : ℤ) × (second y ≡ t)
  pub first : (y : ℤ) → s <ℤ second y → t ≤ℤ second y

-- ---- the window of a change in a mean year

-- A mean year has 31,556,952 seconds, the 400th part of 400 years, and the first one begins on 1 January 1970.

-- n years after 1970, a yearly change comes from the second `low` of its mean year up to the second `high`
pub record LiesWithin (f : ℤ → ℤ) (low high : ℤ) : Type 0 where
  pub not_before : (n : ℤ) → neg_ℤ (pos 70) ≤ℤ n → n ≤ℤ pos 530 → (n *ℤ pos 31_556_952 +ℤ low) ≤ℤ f (pos 1_970 +ℤ n)
  pub not_behind : (n : ℤ) → neg_ℤ (pos 70) ≤ℤ n → n ≤ℤ pos 530 → f (pos 1_970 +ℤ n) ≤ℤ (n *ℤ pos 31_556_952 +ℤ high)

-- between these seconds of each mean year a change comes, where the clock before it is that of UTC
unfoldable pub window_low : YearlyChange → ℤ
window_low c = (pos (least_place c.day) -ℤ pos 1) *ℤ pos 86_400 +ℤ c.second -ℤ pos 109_296

unfoldable pub window_high : YearlyChange → ℤ
window_high c = (pos (least_place c.day + days_later c.day) -ℤ pos 1) *ℤ pos 86_400 +ℤ c.second +ℤ pos 127_224

-- a change is in range, and l and u are its window
pub record IsWindow (c : YearlyChange) (l u : ℤ) : Type 0 where
  pub change : IsChange c
  pub low : l ≡ window_low c
  pub high : u ≡ window_high c
  pub near_low : unsigned_abs l < 33_000_000
  pub near_high : unsigned_abs u < 33_000_000
  pub lies : LiesWithin (change_second (pos 0) c) l u
