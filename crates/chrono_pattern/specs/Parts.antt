-- The parts of a date-time that a text gives.
use Rattle.std.specs.Prelude.{Bool, ℤ, pos, neg_ℤ, if◌then◌else◌, Option, Some, None, Result, Ok, Err}
use Rattle.std.specs.Int.RustNames.{int_lt}
use Rattle.std.specs.Ordering.{int_eq}
use Rattle.chrono_pattern.specs.declared.error.ReadFault.{ReadFault}
use Rattle.chrono_pattern.specs.declared.error.ReadFault.TheVariants.{OutOfRange, Impossible, NotEnough}
use Rattle.chrono_pattern.specs.declared.parsed.Parsed.{Parsed}
use Rattle.chrono_pattern.specs.declared.parsed.Part.{Part}
use Rattle.chrono_pattern.specs.declared.parsed.Part.TheVariants.{FullYear, YearDiv100, YearMod100, FullIsoYear, IsoYearMod100, QuarterOfYear, MonthOfYear, WeekOfIsoYear, WeekFromSun, WeekFromMon, DayOfWeek, OrdinalDay, DayOfMonth, HourDiv12, HourMod12, MinuteOfHour, SecondOfMinute, NanosecondOfSecond, OffsetFromUtc}

-- nothing is given
abbrev pub no_parts : Parsed
no_parts = record {
  year = None;
  year_div_100 = None;
  year_mod_100 = None;
  isoyear = None;
  isoyear_mod_100 = None;
  quarter = None;
  month = None;
  isoweek = None;
  week_from_sun = None;
  week_from_mon = None;
  weekday = None;
  ordinal = None;
  day = None;
  hour_div_12 = None;
  hour_mod_12 = None;
  minute = None;
  second = None;
  nanosecond = None;
  offset = None;
  timestamp = None;
}

-- the part, if it is given
abbrev pub part_of : Part → Parsed → Option ℤ
part_of FullYear p = p.year
part_of YearDiv100 p = p.year_div_100
part_of YearMod100 p = p.year_mod_100
part_of FullIsoYear p = p.isoyear
part_of IsoYearMod100 p = p.isoyear_mod_100
part_of QuarterOfYear p = p.quarter
part_of MonthOfYear p = p.month
part_of WeekOfIsoYear p = p.isoweek
part_of WeekFromSun p = p.week_from_sun
part_of WeekFromMon p = p.week_from_mon
part_of DayOfWeek p = p.weekday
part_of OrdinalDay p = p.ordinal
part_of DayOfMonth p = p.day
part_of HourDiv12 p = p.hour_div_12
part_of HourMod12 p = p.hour_mod_12
part_of MinuteOfHour p = p.minute
part_of SecondOfMinute p = p.second
part_of NanosecondOfSecond p = p.nanosecond
part_of OffsetFromUtc p = p.offset

-- the parts with another value of one
abbrev pub with_part : Part → ℤ → Parsed → Parsed
with_part FullYear v p = record p { year = Some v }
with_part YearDiv100 v p = record p { year_div_100 = Some v }
with_part YearMod100 v p = record p { year_mod_100 = Some v }
with_part FullIsoYear v p = record p { isoyear = Some v }
with_part IsoYearMod100 v p = record p { isoyear_mod_100 = Some v }
with_part QuarterOfYear v p = record p { quarter = Some v }
with_part MonthOfYear v p = record p { month = Some v }
with_part WeekOfIsoYear v p = record p { isoweek = Some v }
with_part WeekFromSun v p = record p { week_from_sun = Some v }
with_part WeekFromMon v p = record p { week_from_mon = Some v }
with_part DayOfWeek v p = record p { weekday = Some v }
with_part OrdinalDay v p = record p { ordinal = Some v }
with_part DayOfMonth v p = record p { day = Some v }
with_part HourDiv12 v p = record p { hour_div_12 = Some v }
with_part HourMod12 v p = record p { hour_mod_12 = Some v }
with_part MinuteOfHour v p = record p { minute = Some v }
with_part SecondOfMinute v p = record p { second = Some v }
with_part NanosecondOfSecond v p = record p { nanosecond = Some v }
with_part OffsetFromUtc v p = record p { offset = Some v }

-- the least and the greatest value of the part that a text may give
abbrev pub part_range : Part → ℤ × ℤ
part_range FullYear = (neg_ℤ (pos 999_999_999), pos 999_999_999)
part_range FullIsoYear = (neg_ℤ (pos 999_999_999), pos 999_999_999)
part_range YearDiv100 = (pos 0, pos 99)
part_range YearMod100 = (pos 0, pos 99)
part_range IsoYearMod100 = (pos 0, pos 99)
part_range QuarterOfYear = (pos 1, pos 4)
part_range MonthOfYear = (pos 1, pos 12)
part_range WeekOfIsoYear = (pos 1, pos 53)
part_range WeekFromSun = (pos 0, pos 53)
part_range WeekFromMon = (pos 0, pos 53)
part_range DayOfWeek = (pos 1, pos 7)
part_range OrdinalDay = (pos 1, pos 366)
part_range DayOfMonth = (pos 1, pos 31)
part_range HourDiv12 = (pos 0, pos 1)
part_range HourMod12 = (pos 0, pos 11)
part_range MinuteOfHour = (pos 0, pos 59)
part_range SecondOfMinute = (pos 0, pos 60)
part_range NanosecondOfSecond = (pos 0, pos 999_999_999)
part_range OffsetFromUtc = (neg_ℤ (pos 86_399), pos 86_399)

-- the parts with one more, if its value is in its range and is the one that was given before
unfoldable pub put : Part → ℤ → Parsed → Result Parsed ReadFault
put part v p =
    if int_lt v (part_range part).0 then Err OutOfRange
    else if int_lt (part_range part).1 v then Err OutOfRange
    else elim (part_of part p) [ None ↦ Ok (with_part part v p) | Some w ↦ if int_eq w v then Ok p else Err Impossible ]

-- why parts give no value: no value of theirs fits them all, or they name none
abbrev pub fault_of_parts : Bool → ReadFault
fault_of_parts named = if named then Impossible else NotEnough

-- the parts with another number of seconds from 1970
abbrev pub with_stamp : ℤ → Parsed → Parsed
with_stamp v p = record p { timestamp = Some v }

-- the parts with that number, if some date has the second and it is the one that was given before
unfoldable pub put_stamp : ℤ → Parsed → Result Parsed ReadFault
put_stamp v p =
    if int_lt v (neg_ℤ (pos 8_334_601_228_800)) then Err OutOfRange
    else if int_lt (pos 8_210_266_876_799) v then Err OutOfRange
    else elim p.timestamp [ None ↦ Ok (with_stamp v p) | Some w ↦ if int_eq w v then Ok p else Err Impossible ]
