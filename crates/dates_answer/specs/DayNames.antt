-- A day by its names, as they are printed.
use Rattle.std.specs.Prelude.{ℕ, List, ◌++◌, codes, ℤ, ◌-ℤ◌}
use Rattle.std.specs.Fmt.{signed_decimal}
use Rattle.chrono_datetime.specs.Days.{ordinal_of, year_of}
use Rattle.chrono_datetime.specs.DateText.{date_text}
use Rattle.chrono_datetime.specs.Fields.{unix_epoch_day}
use Rattle.chrono_datetime.specs.Text.{ordinal_text, week_date_text}
use Rattle.chrono_datetime.specs.Weekday.{number_from_monday}
use Rattle.chrono_datetime.specs.WeekdayText.{weekday_text}
use Rattle.chrono_datetime.specs.Weeks.{iso_week_of, iso_year_of, weekday_of}

-- the day n by its year and its place there (ISO 8601 ordinal date), as `2024-060`
abbrev pub ordinal_name : ℤ → List ℕ
ordinal_name n = ordinal_text (year_of n) (ordinal_of n)

-- the day n by its week and its place there (ISO 8601 week date), as `2024-W09-4`
abbrev pub week_name : ℤ → List ℕ
week_name n = week_date_text (iso_year_of n) (iso_week_of n) (number_from_monday (weekday_of n))

-- the line of the day n: its calendar, ordinal and week date, its weekday, its number, and the number of days since 1970-01-01
unfoldable pub names_text : ℤ → List ℕ
names_text n = date_text n ++ (codes " " ++ (ordinal_name n ++ (codes " " ++ (week_name n ++ (codes " " ++ (weekday_text (weekday_of n) ++ (codes " " ++ (signed_decimal n ++ (codes " " ++ signed_decimal (n -ℤ unix_epoch_day))))))))))
