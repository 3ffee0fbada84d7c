-- The texts of dates and of ISO weeks, as lists of ASCII codes.
use Rattle.std.specs.Prelude.{ℕ, List, ℤ}
use Rattle.chrono_text.specs.Text.{calendar_text, week_text}
use Rattle.chrono_calendar.specs.Days.{year_of, month_of, day_of}
use Rattle.chrono_naive.specs.Fields.{IsoYearAndWeek}

-- what `{}` and `{:?}` write for the date n (ISO 8601 calendar date)
abbrev pub date_text : ℤ → List ℕ
date_text n = calendar_text (year_of n) (month_of n) (day_of n)

-- what `{:?}` writes for a week of an ISO year (ISO 8601 week date, without its day)
abbrev pub iso_week_text : IsoYearAndWeek → List ℕ
iso_week_text w = week_text w.year w.week
