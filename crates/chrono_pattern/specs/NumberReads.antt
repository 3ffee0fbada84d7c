-- How numbers are read: behind blanks or none, with at most so many digits.
use Rattle.std.specs.Prelude.{ℕ, ◌==◌, Bool, true, false, if◌then◌else◌, min, List, [], ◌∷◌, drop, take, ℤ, pos, Option, Some, None, Result, Ok, Err}
use Rattle.std.specs.Int.{int_div_euclid, int_rem_euclid}
use Rattle.std.specs.Ordering.{int_eq}
use Rattle.std.specs.Str.{byte}
use Rattle.chrono_text.specs.Numbers.{digits_of, signed}
use Rattle.chrono_pattern.specs.Parts.{put}
use Rattle.chrono_pattern.specs.Progress.{Progress, behind_blanks, class_len, fault_without, progress, stopped}
use Rattle.chrono_pattern.specs.declared.class.Class.TheVariants.{Digit}
use Rattle.chrono_pattern.specs.declared.error.ReadFault.{ReadFault}
use Rattle.chrono_pattern.specs.declared.error.ReadFault.TheVariants.{TooShort}
use Rattle.chrono_pattern.specs.declared.parsed.Parsed.{Parsed}
use Rattle.chrono_pattern.specs.declared.parsed.Part.{Part}
use Rattle.chrono_pattern.specs.declared.parsed.Part.TheVariants.{FullYear, YearDiv100, YearMod100, QuarterOfYear, MonthOfYear, DayOfMonth, OrdinalDay, DayOfWeek, FullIsoYear, IsoYearMod100, WeekOfIsoYear, WeekFromSun, WeekFromMon, HourMod12, MinuteOfHour, SecondOfMinute, NanosecondOfSecond, HourDiv12}
use Rattle.chrono_pattern.specs.declared.stop.Stop.{Stop}
use Rattle.chrono_pattern.specs.declared.item.NumberField.{NumberField}
use Rattle.chrono_pattern.specs.declared.item.NumberField.TheVariants.{Year, Century, YearOfCentury, Quarter, Month, Day, SpacedDay, DayOfYear, FromMonday, FromSunday, IsoYear, IsoYearOfCentury, IsoWeek, WeekFromSunday, WeekFromMonday, Hour, SpacedHour, HalfHour, SpacedHalfHour, Minute, Second, Nanosecond}

-- the number may have a sign
abbrev pub has_sign : NumberField → Bool
has_sign Year = true
has_sign IsoYear = true
has_sign _ = false

-- the most digits of the number without a sign
abbrev pub most_digits : NumberField → ℕ
most_digits Year = 4
most_digits IsoYear = 4
most_digits DayOfYear = 3
most_digits Quarter = 1
most_digits FromMonday = 1
most_digits FromSunday = 1
most_digits Nanosecond = 9
most_digits _ = 2

-- Sunday is 0 or 7 as a number from Sunday, and 7 from Monday. It is not written as 7 from Sunday.
abbrev pub weekday_of_sunday : ℤ → ℤ
weekday_of_sunday v = if int_eq v (pos 0) then pos 7 else if int_eq v (pos 7) then pos 8 else v

-- the hour of a clock of twelve that shows 12 is the first of its half day
abbrev pub hour_of_clock : ℤ → ℤ
hour_of_clock v = if int_eq v (pos 0) then pos 12 else if int_eq v (pos 12) then pos 0 else v

-- the part that the number gives, and its value
abbrev pub number_part : NumberField → ℤ → Part × ℤ
number_part Year v = (FullYear, v)
number_part Century v = (YearDiv100, v)
number_part YearOfCentury v = (YearMod100, v)
number_part Quarter v = (QuarterOfYear, v)
number_part Month v = (MonthOfYear, v)
number_part Day v = (DayOfMonth, v)
number_part SpacedDay v = (DayOfMonth, v)
number_part DayOfYear v = (OrdinalDay, v)
number_part FromMonday v = (DayOfWeek, v)
number_part FromSunday v = (DayOfWeek, weekday_of_sunday v)
number_part IsoYear v = (FullIsoYear, v)
number_part IsoYearOfCentury v = (IsoYearMod100, v)
number_part IsoWeek v = (WeekOfIsoYear, v)
number_part WeekFromSunday v = (WeekFromSun, v)
number_part WeekFromMonday v = (WeekFromMon, v)
number_part Hour v = (HourMod12, int_rem_euclid v (pos 12))
number_part SpacedHour v = (HourMod12, int_rem_euclid v (pos 12))
number_part HalfHour v = (HourMod12, hour_of_clock v)
number_part SpacedHalfHour v = (HourMod12, hour_of_clock v)
number_part Minute v = (MinuteOfHour, v)
number_part Second v = (SecondOfMinute, v)
number_part Nanosecond v = (NanosecondOfSecond, v)

-- an hour from 0 to 23 gives the half of the day also
abbrev pub half_put : NumberField → ℤ → Parsed → Result Parsed ReadFault
half_put Hour v p = put HourDiv12 (int_div_euclid v (pos 12)) p
half_put SpacedHour v p = put HourDiv12 (int_div_euclid v (pos 12)) p
half_put field v p = Ok p

abbrev pub part_put : Result Parsed ReadFault → NumberField → ℤ → Result Parsed ReadFault
part_put (Ok p) field v = put (number_part field v).0 (number_part field v).1 p
part_put (Err cause) field v = Err cause

-- what the number gives
unfoldable pub number_put : NumberField → ℤ → Parsed → Result Parsed ReadFault
number_put field v p = part_put (half_put field v p) field v

-- the digits in front of a text, at most so many
abbrev pub digits_in : ℕ → List ℕ → ℕ
digits_in most text = min (class_len Digit text) most

-- the value of the digits, if there are any
abbrev pub value_read : Option ℕ → NumberField → ℕ → Bool → List ℕ → Parsed → Result Progress Stop
value_read None field most negative text p = Err (stopped (fault_without 1 text) text)
value_read (Some n) field most negative text p =
    progress (number_put field (signed negative n) p) (drop (digits_in most text) text) text

-- the digits of a number, at most so many, with its sign
unfoldable pub digits_read : NumberField → ℕ → Bool → List ℕ → Parsed → Result Progress Stop
digits_read field most negative text p = value_read (digits_of most (take (digits_in most text) text)) field most negative text p

-- a number that may have a sign, and then has at most nine digits
unfoldable pub signed_read : NumberField → List ℕ → Parsed → Result Progress Stop
signed_read field [] p = Err (stopped TooShort [])
signed_read field (c ∷ digits) p =
    if c == byte "-" then digits_read field 9 true digits p
    else if c == byte "+" then digits_read field 9 false digits p
    else digits_read field (most_digits field) false (c ∷ digits) p

-- a number behind blanks or none
unfoldable pub number_read : NumberField → Progress → Result Progress Stop
number_read field r =
    if has_sign field then signed_read field (behind_blanks r.rest) r.parsed
    else digits_read field (most_digits field) false (behind_blanks r.rest) r.parsed
