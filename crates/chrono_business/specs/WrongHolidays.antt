-- What is wrong with a list of holidays: the first that cannot stand in it.
use Rattle.std.specs.Prelude.{◌≡◌, ℕ, ◌-◌, ◌<◌, true, List, length, slice_index_or, take, ℤ, ◌≤ℤ◌}
use Rattle.chrono_datetime.specs.WeekdaySet.{DaySet}
use Rattle.chrono_datetime.specs.Recurrence.{is_on}
use Rattle.chrono_business.specs.OpenDays.{AreHolidays, is_workday}
use Rattle.chrono_business.specs.declared.holiday_error.HolidayError.{HolidayError}
use Rattle.chrono_business.specs.declared.holiday_error.HolidayError.TheVariants.{NotRising, OnWeekend}

-- the list has a day at the place i, and those in front of it are holidays of a calendar
pub record AreRightBefore (weekend : DaySet) (xs : List ℤ) (i : ℕ) : Type 0 where
  pub within : i < length xs
  pub holidays : AreHolidays weekend (take i xs)

-- the day at the place i is the first wrong one. It is on the weekend, or it is a workday that is not later than the one
-- before it
abbrev pub IsWrong : DaySet → List ℤ → HolidayError → Type 0
IsWrong weekend xs (OnWeekend i) = AreRightBefore weekend xs i × ((d : ℤ) → is_on weekend (slice_index_or xs i d) ≡ true)
IsWrong weekend xs (NotRising i) =
    AreRightBefore weekend xs i
    × (0 < i)
    × ((d : ℤ) → is_workday weekend (slice_index_or xs i d) ≡ true)
    × ((d : ℤ) → slice_index_or xs i d ≤ℤ slice_index_or xs (i - 1) d)
