-- Lists of holidays that are put together: those of rules, and whether a slice has room for them.
use Rattle.std.specs.Prelude.{◌≡◌, ℕ, ◌<◌, ◌⊎◌, true, List, length, slice_index_or, Some, ℤ, ◌≤ℤ◌}
use Rattle.chrono_datetime.specs.WeekdaySet.{DaySet}
use Rattle.chrono_business.specs.declared.holiday_rule.HolidayRule.{HolidayRule}
use Rattle.chrono_business.specs.HolidayRules.{date_of_rule}
use Rattle.chrono_datetime.specs.RisingDates.{AreRising}
use Rattle.chrono_business.specs.OpenDays.{AreHolidays, is_holiday, is_workday}

-- the day d is the date of one of the rules, of one of the years from `first` to `last`
pub record IsOfRules (rules : List HolidayRule) (first last d : ℤ) : Type 0 where
  pub place : ℕ
  pub within : place < length rules
  pub year : ℤ
  pub from : first ≤ℤ year
  pub to : year ≤ℤ last
  pub date : (r : HolidayRule) → date_of_rule (slice_index_or rules place r) year ≡ Some d

-- the days of P are too many for so many places: each rising list that has all of them is longer
abbrev pub AreTooMany : (ℤ → Type 0) → ℕ → Type 0
AreTooMany P places = (xs : List ℤ) → AreRising xs → ((d : ℤ) → P d → is_holiday xs d ≡ true) → places < length xs

-- holidays that have the days of zs and the workdays of P, and no others
pub record AreHolidaysWith (weekend : DaySet) (zs : List ℤ) (P : ℤ → Type 0) (xs : List ℤ) : Type 0 where
  pub holidays : AreHolidays weekend xs
  pub only : (d : ℤ) → is_holiday xs d ≡ true → (is_holiday zs d ≡ true) ⊎ (P d × (is_workday weekend d ≡ true))
  pub kept : (d : ℤ) → is_holiday zs d ≡ true → is_holiday xs d ≡ true
  pub each : (d : ℤ) → P d → is_workday weekend d ≡ true → is_holiday xs d ≡ true
