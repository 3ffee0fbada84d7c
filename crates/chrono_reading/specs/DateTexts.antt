-- The texts of dates, by each kind of name that ISO 8601 gives them.
use Rattle.std.specs.Prelude.{◌≡◌, ℕ, ℤ, List, Some}
use Rattle.std.specs.Int.{IsInRange}
use Rattle.chrono_datetime.specs.declared.Weekday.{Weekday}
use Rattle.chrono_datetime.specs.Days.{date_of_ymd, date_of_yo}
use Rattle.chrono_datetime.specs.Fields.{IsIsoYear}
use Rattle.chrono_text.specs.Text.{calendar_text, ordinal_text, week_date_text}
use Rattle.chrono_datetime.specs.Weekday.{number_from_monday}
use Rattle.chrono_datetime.specs.Weeks.{date_of_iso}

-- a text of the date n: the year, the month and the day of the month that name it (ISO 8601 calendar date)
pub record IsDateText (text : List ℕ) (n : ℤ) : Type 0 where
  pub year : ℤ
  pub month : ℕ
  pub day : ℕ
  pub names : date_of_ymd year month day ≡ Some n
  pub written : calendar_text year month day ≡ text

-- a text of the date n: the year and the place in it that name it (ISO 8601 ordinal date)
pub record IsOrdinalDateText (text : List ℕ) (n : ℤ) : Type 0 where
  pub year : ℤ
  pub ordinal : ℕ
  pub names : date_of_yo year ordinal ≡ Some n
  pub written : ordinal_text year ordinal ≡ text

-- a text of the date n: the ISO year, its week from 1 to 53, and the weekday from 1 for Monday. They name the date (ISO
-- 8601 week date)
pub record IsWeekDateText (text : List ℕ) (n : ℤ) : Type 0 where
  pub year : ℤ
  pub week : ℕ
  pub weekday : Weekday
  pub year_in_range : IsIsoYear year
  pub week_in_year : IsInRange 1 53 week
  pub names : date_of_iso year week weekday ≡ Some n
  pub written : week_date_text year week (number_from_monday weekday) ≡ text
