-- What stands in a column for each number, date or name, and for that there is none.
use Rattle.std.specs.Prelude.{◌≡◌, ◌≢◌, ◌&&◌, Bool, ℕ, ℤ, pos, neg_ℤ, ◌^◌, ◌+ℤ◌, ◌-ℤ◌, int_le, if◌then◌else◌, List, replicate, Option, Some, None}
use Rattle.std.specs.Option.{option_and_then, option_map}
use Rattle.chrono_units.specs.Weekday.{number_from_monday}
use Rattle.chrono_units.specs.WeekdaySet.{DaySet}
use Rattle.chrono_calendar.specs.Days.{date_of_day, date_of_ymd, year_of, ordinal_of, month_of, day_of}
use Rattle.chrono_calendar.specs.Weeks.{iso_week_of, iso_year_of, weekday_of}
use Rattle.chrono_calendar.specs.MonthMoves.{month_move}
use Rattle.chrono_calendar.specs.Recurrence.{date_on}
use Rattle.chrono_text.specs.Text.{calendar_text}
use Rattle.chrono_datetime.specs.DateText.{date_text}
use Rattle.chrono_datetime.specs.Fields.{unix_epoch_day}
use Rattle.chrono_reading.specs.DateTexts.{IsDateText}

-- a date, a year or a distance, and for none the least i32, which is no such number
abbrev pub number_entry : Option ℤ → ℤ
number_entry (Some n) = n
number_entry None = neg_ℤ (pos (2 ^ 31))

-- the days since 1970 in 64 bits, and for none the least i64
abbrev pub wide_entry : Option ℤ → ℤ
wide_entry (Some n) = n
wide_entry None = neg_ℤ (pos (2 ^ 63))

-- a month, a day, an ordinal, a week or a weekday, and for none 0, as all of these begin at 1
abbrev pub count_entry : Option ℕ → ℕ
count_entry (Some n) = n
count_entry None = 0

-- the year of the date with the number n, or the least `i32`
unfoldable pub year_entry : ℤ → ℤ
year_entry n = number_entry (option_map year_of (date_of_day n))

-- the ordinal of the date with the number n, or 0
unfoldable pub ordinal_entry : ℤ → ℕ
ordinal_entry n = count_entry (option_map ordinal_of (date_of_day n))

-- the month of the date with the number n, or 0
unfoldable pub month_entry : ℤ → ℕ
month_entry n = count_entry (option_map month_of (date_of_day n))

-- the day of the month of the date with the number n, or 0
unfoldable pub day_entry : ℤ → ℕ
day_entry n = count_entry (option_map day_of (date_of_day n))

-- the weekday of the date n, from 1 for Monday to 7 for Sunday, or 0
unfoldable pub weekday_entry : ℤ → ℕ
weekday_entry n = count_entry (option_map (λ d. number_from_monday (weekday_of d)) (date_of_day n))

-- the ISO year of the date with the number n, or the least `i32`
unfoldable pub iso_year_entry : ℤ → ℤ
iso_year_entry n = number_entry (option_map iso_year_of (date_of_day n))

-- the ISO week of the date with the number n, or 0
unfoldable pub iso_week_entry : ℤ → ℕ
iso_week_entry n = count_entry (option_map iso_week_of (date_of_day n))

-- the date of a year, a month and a day
unfoldable pub date_entry : ℤ → ℕ → ℕ → ℤ
date_entry y m d = number_entry (date_of_ymd y m d)

-- the date k days after the date n, or the least `i32`
unfoldable pub later_entry : ℤ → ℤ → ℤ
later_entry k n = number_entry (option_and_then (λ d. date_of_day (d +ℤ k)) (date_of_day n))

-- the date k months after the date n, or the least `i32`
unfoldable pub months_later_entry : ℤ → ℤ → ℤ
months_later_entry k n = number_entry (option_and_then (λ d. month_move d k) (date_of_day n))

-- the days from the date m to the date n
unfoldable pub distance_entry : ℤ → ℤ → ℤ
distance_entry n m = number_entry (option_and_then (λ d. option_map (λ e. d -ℤ e) (date_of_day m)) (date_of_day n))

-- the first date from the date n on that has a weekday of the set
unfoldable pub first_on_entry : DaySet → ℤ → ℤ
first_on_entry set n = number_entry (option_and_then (λ d. date_on d set) (date_of_day n))

-- the date so many days after 1 January 1970, or the least `i32`
unfoldable pub unix_date_entry : ℤ → ℤ
unix_date_entry z = number_entry (date_of_day (z +ℤ unix_epoch_day))

-- the days from 1 January 1970 to the date n, or the least `i64`
unfoldable pub unix_days_entry : ℤ → ℤ
unix_days_entry n = wide_entry (option_map (λ d. d -ℤ unix_epoch_day) (date_of_day n))

-- a text of ten bytes, and for none ten zero bytes
abbrev pub bytes_entry : Option (List ℕ) → List ℕ
bytes_entry (Some text) = text
bytes_entry None = replicate 10 0

-- a year of four digits and no sign, whose dates have ten bytes
abbrev pub has_four_digits : ℤ → Bool
has_four_digits y = int_le (pos 0) y && int_le y (pos 9_999)

-- the text of a year, a month and a day, if the year has four digits
abbrev pub name_text_entry : ℤ → ℕ → ℕ → List ℕ
name_text_entry y m d = bytes_entry (if has_four_digits y then Some (calendar_text y m d) else None)

-- the text of the date n, if its year has four digits
unfoldable pub text_entry : ℤ → List ℕ
text_entry n = bytes_entry (option_and_then (λ d. if has_four_digits (year_of d) then Some (date_text d) else None) (date_of_day n))

-- the date whose text it is, and for a text of no date what stands for none
pub record IsTextEntry (text : List ℕ) (n : ℤ) : Type 0 where
  pub read : n ≢ number_entry None → IsDateText text n
  pub every : (m : ℤ) → IsDateText text m → n ≡ m
