-- The numbers that a pattern writes of a date-time.
use Rattle.std.specs.Prelude.{ℕ, ◌+◌, ◌-◌, ◌/◌, ◌%◌, if◌then◌else◌, List, [], ◌++◌, codes, length, take, ℤ, pos, unsigned_abs}
use Rattle.std.specs.Fmt.{decimal}
use Rattle.std.specs.Int.{int_div_euclid, int_rem_euclid}
use Rattle.std.specs.Int.RustNames.{int_lt}
use Rattle.chrono_datetime.specs.Days.{day_of, month_of, ordinal_of, year_of}
use Rattle.chrono_datetime.specs.Duration.{nanos_per_second}
use Rattle.chrono_datetime.specs.Fields.{quarter_of_month}
use Rattle.chrono_datetime.specs.Moment.{Moment}
use Rattle.chrono_datetime.specs.Time.{hour12_of, hour_of, minute_of, second_of}
use Rattle.chrono_datetime.specs.Weekday.{days_from_sunday, number_from_monday}
use Rattle.chrono_datetime.specs.Weeks.{iso_week_of, iso_year_of, weekday_of}
use Rattle.chrono_pattern.specs.YearWeeks.{week_from_monday, week_from_sunday}
use Rattle.chrono_pattern.specs.declared.item.Padding.{Padding}
use Rattle.chrono_pattern.specs.declared.item.Padding.TheVariants.{Usual, Nothing, Spaces, Zeros}
use Rattle.chrono_pattern.specs.declared.item.NumberField.{NumberField}
use Rattle.chrono_pattern.specs.declared.item.NumberField.TheVariants.{Year, Century, YearOfCentury, Quarter, Month, Day, SpacedDay, DayOfYear, FromMonday, FromSunday, IsoYear, IsoYearOfCentury, IsoWeek, WeekFromSunday, WeekFromMonday, Hour, SpacedHour, HalfHour, SpacedHalfHour, Minute, Second, Nanosecond}

-- the size of the number
abbrev pub size_of : NumberField → Moment → ℕ
size_of Year m = unsigned_abs (year_of m.date)
size_of Century m = unsigned_abs (int_div_euclid (year_of m.date) (pos 100))
size_of YearOfCentury m = unsigned_abs (int_rem_euclid (year_of m.date) (pos 100))
size_of Quarter m = quarter_of_month (month_of m.date)
size_of Month m = month_of m.date
size_of Day m = day_of m.date
size_of SpacedDay m = day_of m.date
size_of DayOfYear m = ordinal_of m.date
size_of FromMonday m = number_from_monday (weekday_of m.date)
size_of FromSunday m = days_from_sunday (weekday_of m.date)
size_of IsoYear m = unsigned_abs (iso_year_of m.date)
size_of IsoYearOfCentury m = unsigned_abs (int_rem_euclid (iso_year_of m.date) (pos 100))
size_of IsoWeek m = iso_week_of m.date
size_of WeekFromSunday m = week_from_sunday m.date
size_of WeekFromMonday m = week_from_monday m.date
size_of Hour m = hour_of m.time
size_of SpacedHour m = hour_of m.time
size_of HalfHour m = hour12_of m.time
size_of SpacedHalfHour m = hour12_of m.time
size_of Minute m = minute_of m.time
size_of Second m = second_of m.time + m.time.fraction / nanos_per_second
size_of Nanosecond m = m.time.fraction % nanos_per_second

-- the sign of a year: `-` below 0, and `+` where it has more than four digits
abbrev pub year_sign : ℤ → List ℕ
year_sign y = if int_lt y (pos 0) then codes "-" else if int_lt (pos 9_999) y then codes "+" else []

-- the sign of the number
abbrev pub sign_of : NumberField → Moment → List ℕ
sign_of Year m = year_sign (year_of m.date)
sign_of IsoYear m = year_sign (iso_year_of m.date)
sign_of Century m = if int_lt (year_of m.date) (pos 0) then codes "-" else []
sign_of _ m = []

-- how many digits are written at least, with a sign of so many bytes
abbrev pub least_digits : NumberField → ℕ → ℕ
least_digits Year sign = 4
least_digits IsoYear sign = 4
least_digits Century sign = 2 - sign
least_digits DayOfYear sign = 3
least_digits Quarter sign = 1
least_digits FromMonday sign = 1
least_digits FromSunday sign = 1
least_digits Nanosecond sign = 9
least_digits _ sign = 2

-- the padding of the number's own specifier
abbrev pub usual_padding : NumberField → Padding
usual_padding SpacedDay = Spaces
usual_padding SpacedHour = Spaces
usual_padding SpacedHalfHour = Spaces
usual_padding _ = Zeros

-- the padding that is asked for, or else that one
abbrev pub padding_of : NumberField → Padding → Padding
padding_of field Usual = usual_padding field
padding_of field Nothing = Nothing
padding_of field Spaces = Spaces
padding_of field Zeros = Zeros

-- a sign or none and the digits of n: zeros are missing behind the sign, or spaces before it
abbrev pub padded : Padding → ℕ → List ℕ → ℕ → List ℕ
padded Spaces least sign n = take (least - length (decimal n)) (codes "         ") ++ sign ++ decimal n
padded Zeros least sign n = sign ++ take (least - length (decimal n)) (codes "000000000") ++ decimal n
padded Nothing least sign n = sign ++ decimal n
padded Usual least sign n = sign ++ decimal n

-- the number as a pattern writes it
unfoldable pub field_text : NumberField → Padding → Moment → List ℕ
field_text field p m =
    padded (padding_of field p) (least_digits field (length (sign_of field m))) (sign_of field m) (size_of field m)
