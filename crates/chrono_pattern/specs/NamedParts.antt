-- Which parts the specifiers of a pattern read, and what its texts may name by them.
use Rattle.std.specs.Prelude.{ℕ, Bool, true, false, List, [], ◌∷◌, pos, Some, None}
use Rattle.chrono_pattern.specs.DateParts.{names_date}
use Rattle.chrono_pattern.specs.Needs.{has_fraction}
use Rattle.chrono_pattern.specs.NumberReads.{number_part}
use Rattle.chrono_pattern.specs.Parts.{no_parts, with_part, with_stamp}
use Rattle.chrono_pattern.specs.PatternSteps.{pattern_step}
use Rattle.chrono_pattern.specs.TimeParts.{names_time}
use Rattle.chrono_pattern.specs.ZonedParts.{names_moment, names_zoned}
use Rattle.chrono_pattern.specs.declared.names.Names.{Names}
use Rattle.chrono_pattern.specs.declared.parsed.Parsed.{Parsed}
use Rattle.chrono_pattern.specs.declared.parsed.Part.{Part}
use Rattle.chrono_pattern.specs.declared.parsed.Part.TheVariants.{MonthOfYear, DayOfWeek, HourDiv12, NanosecondOfSecond, OffsetFromUtc}
use Rattle.chrono_pattern.specs.declared.item.NumberField.{NumberField}
use Rattle.chrono_pattern.specs.declared.item.NumberField.TheVariants.{Year, YearOfCentury, Month, Day, SpacedDay, Hour, SpacedHour, HalfHour, Minute, Second}
use Rattle.chrono_pattern.specs.declared.item.WordField.{WordField}
use Rattle.chrono_pattern.specs.declared.item.WordField.TheVariants.{MonthName, MonthLetters, WeekdayName, WeekdayLetters, Half, SmallHalf}
use Rattle.chrono_pattern.specs.declared.item.GroupField.{GroupField}
use Rattle.chrono_pattern.specs.declared.item.GroupField.TheVariants.{YearMonthDay, MonthDayYear, HourMinute, HourMinuteSecond, HalfClock, DayMonthYear, DateAndTime}
use Rattle.chrono_pattern.specs.declared.item.ZonedField.{ZonedField}
use Rattle.chrono_pattern.specs.declared.item.ZonedField.TheVariants.{Offset, ZoneName, Stamp, Iso8601}
use Rattle.chrono_pattern.specs.declared.item.Item.{Item}
use Rattle.chrono_pattern.specs.declared.item.Item.TheVariants.{Empty, Byte, Number, Word, Group, Subsecond, Zoned}
use Rattle.chrono_pattern.specs.declared.item.State.{State}
use Rattle.chrono_pattern.specs.declared.item.State.TheVariants.{Outside}

-- The parts with one more. Its value is 0, and tells only that it is named.
abbrev pub with_named : Part → Parsed → Parsed
with_named part p = with_part part (pos 0) p

-- an hour from 0 to 23 names the half of the day also
abbrev pub with_half : NumberField → Parsed → Parsed
with_half Hour p = with_named HourDiv12 p
with_half SpacedHour p = with_named HourDiv12 p
with_half field p = p

-- the parts with those of a number
abbrev pub with_number_field : NumberField → Parsed → Parsed
with_number_field field p = with_named (number_part field (pos 0)).0 (with_half field p)

-- the part of a word
abbrev pub word_part : WordField → Part
word_part MonthName = MonthOfYear
word_part MonthLetters = MonthOfYear
word_part WeekdayName = DayOfWeek
word_part WeekdayLetters = DayOfWeek
word_part Half = HourDiv12
word_part SmallHalf = HourDiv12

-- the parts with those of an hour, a minute and a second
abbrev pub with_clock : NumberField → Parsed → Parsed
with_clock hour p = with_number_field Second (with_number_field Minute (with_number_field hour p))

-- the parts with those of a group
unfoldable pub with_group : GroupField → Parsed → Parsed
with_group YearMonthDay p = with_number_field Day (with_number_field Month (with_number_field Year p))
with_group MonthDayYear p = with_number_field YearOfCentury (with_number_field Day (with_number_field Month p))
with_group HourMinute p = with_number_field Minute (with_number_field Hour p)
with_group HourMinuteSecond p = with_clock Hour p
with_group HalfClock p = with_named HourDiv12 (with_clock HalfHour p)
with_group DayMonthYear p = with_number_field Year (with_named MonthOfYear (with_number_field SpacedDay p))
with_group DateAndTime p =
    with_number_field Year (with_clock Hour (with_number_field SpacedDay (with_named MonthOfYear (with_named DayOfWeek p))))

-- the parts with those of a piece
abbrev pub with_zoned : ZonedField → Parsed → Parsed
with_zoned (Offset form) p = with_named OffsetFromUtc p
with_zoned ZoneName p = p
with_zoned Stamp p = with_stamp (pos 0) p
with_zoned Iso8601 p = with_named OffsetFromUtc (with_named NanosecondOfSecond (with_group HourMinuteSecond (with_group YearMonthDay p)))

-- the parts with those of an item
abbrev pub with_item : Item → Parsed → Parsed
with_item Empty p = p
with_item (Byte c) p = p
with_item (Number field padding) p = with_number_field field p
with_item (Word word) p = with_named (word_part word) p
with_item (Group group) p = with_group group p
with_item (Subsecond point count) p = with_named NanosecondOfSecond p
with_item (Zoned field) p = with_zoned field p

-- the parts with those of the items of the bytes
unfoldable pub named_from : State → List ℕ → Parsed → Parsed
named_from s [] p = p
named_from s (c ∷ bytes) p = elim (pattern_step s c) [ None ↦ p | Some next ↦ named_from next.0 bytes (with_item next.1 p) ]

-- the parts that the specifiers of a pattern read, each as 0
abbrev pub named_parts : List ℕ → Parsed
named_parts bytes = named_from Outside bytes no_parts

-- the parts with no fraction, unless each text gives one
abbrev pub with_sure_fraction : Bool → Parsed → Parsed
with_sure_fraction true p = p
with_sure_fraction false p = record p { nanosecond = None }

-- the parts that each text of the pattern gives, each as 0; a fraction behind a point may be left out
abbrev pub sure_parts : List ℕ → Parsed
sure_parts bytes = with_sure_fraction (has_fraction bytes) (named_parts bytes)

-- what the texts of the pattern may name
abbrev pub names_told : List ℕ → Names
names_told bytes = record {
  date = names_date (sure_parts bytes);
  time = names_time (sure_parts bytes);
  date_time = names_moment (sure_parts bytes);
  zoned = names_zoned (sure_parts bytes);
}
