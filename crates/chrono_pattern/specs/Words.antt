-- The words that a pattern writes of a date-time.
use Rattle.std.specs.Prelude.{ℕ, if◌then◌else◌, nat_lt, List, codes, take}
use Rattle.chrono_datetime.specs.Days.{month_of}
use Rattle.chrono_datetime.specs.Moment.{Moment}
use Rattle.chrono_datetime.specs.Month.{month_from_number, month_name}
use Rattle.chrono_datetime.specs.Names.{weekday_name}
use Rattle.chrono_datetime.specs.Time.{TimeOfDay, hour_of}
use Rattle.chrono_datetime.specs.WeekdayText.{weekday_text}
use Rattle.chrono_datetime.specs.Weeks.{weekday_of}
use Rattle.chrono_pattern.specs.declared.item.WordField.{WordField}
use Rattle.chrono_pattern.specs.declared.item.WordField.TheVariants.{MonthName, MonthLetters, WeekdayName, WeekdayLetters, Half, SmallHalf}

-- the half of the day: the second one begins at noon
abbrev pub half_text : TimeOfDay → List ℕ
half_text t = if nat_lt (hour_of t) 12 then codes "AM" else codes "PM"

-- the same in small letters
abbrev pub small_half_text : TimeOfDay → List ℕ
small_half_text t = if nat_lt (hour_of t) 12 then codes "am" else codes "pm"

-- the word
unfoldable pub word_text : WordField → Moment → List ℕ
word_text MonthName m = month_name (month_from_number (month_of m.date))
word_text MonthLetters m = take 3 (month_name (month_from_number (month_of m.date)))
word_text WeekdayName m = weekday_name (weekday_of m.date)
word_text WeekdayLetters m = weekday_text (weekday_of m.date)
word_text Half m = half_text m.time
word_text SmallHalf m = small_half_text m.time
