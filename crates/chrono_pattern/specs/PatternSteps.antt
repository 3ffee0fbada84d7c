-- How a pattern is read: where a reader of its bytes stands, and what each byte writes.
use Rattle.std.specs.Prelude.{ℕ, ◌==◌, Bool, true, false, ◌||◌, if◌then◌else◌, Option, Some, None}
use Rattle.std.specs.Str.{byte}
use Rattle.chrono_pattern.specs.declared.item.Padding.{Padding}
use Rattle.chrono_pattern.specs.declared.item.Padding.TheVariants.{Usual, Nothing, Spaces, Zeros}
use Rattle.chrono_pattern.specs.declared.item.NumberField.{NumberField}
use Rattle.chrono_pattern.specs.declared.item.NumberField.TheVariants.{Year, Century, YearOfCentury, Quarter, Month, Day, SpacedDay, DayOfYear, FromMonday, FromSunday, IsoYear, IsoYearOfCentury, IsoWeek, WeekFromSunday, WeekFromMonday, Hour, SpacedHour, HalfHour, SpacedHalfHour, Minute, Second, Nanosecond}
use Rattle.chrono_pattern.specs.declared.item.WordField.{WordField}
use Rattle.chrono_pattern.specs.declared.item.WordField.TheVariants.{MonthName, MonthLetters, WeekdayName, WeekdayLetters, Half, SmallHalf}
use Rattle.chrono_pattern.specs.declared.item.GroupField.{GroupField}
use Rattle.chrono_pattern.specs.declared.item.GroupField.TheVariants.{YearMonthDay, MonthDayYear, HourMinute, HourMinuteSecond, HalfClock, DayMonthYear, DateAndTime}
use Rattle.chrono_pattern.specs.declared.item.OffsetForm.{OffsetForm}
use Rattle.chrono_pattern.specs.declared.item.OffsetForm.TheVariants.{Plain, Colon, Seconds, Hours, Loose}
use Rattle.chrono_pattern.specs.declared.item.ZonedField.TheVariants.{Offset, ZoneName, Stamp, Iso8601}
use Rattle.chrono_pattern.specs.declared.item.Item.{Item}
use Rattle.chrono_pattern.specs.declared.item.Item.TheVariants.{Empty, Byte, Number, Word, Group, Subsecond, Zoned}
use Rattle.chrono_pattern.specs.declared.item.State.{State}
use Rattle.chrono_pattern.specs.declared.item.State.TheVariants.{Outside, Opened, Digits, Marked}

-- the number of a date that a specifier's byte names
unfoldable pub date_number_at : ℕ → Option NumberField
date_number_at c =
    if c == byte "Y" then Some Year
    else if c == byte "C" then Some Century
    else if c == byte "y" then Some YearOfCentury
    else if c == byte "q" then Some Quarter
    else if c == byte "m" then Some Month
    else if c == byte "d" then Some Day
    else if c == byte "e" then Some SpacedDay
    else if c == byte "j" then Some DayOfYear
    else if c == byte "u" then Some FromMonday
    else if c == byte "w" then Some FromSunday
    else if c == byte "G" then Some IsoYear
    else if c == byte "g" then Some IsoYearOfCentury
    else if c == byte "V" then Some IsoWeek
    else if c == byte "U" then Some WeekFromSunday
    else if c == byte "W" then Some WeekFromMonday
    else None

-- the number of a time of day that it names
unfoldable pub time_number_at : ℕ → Option NumberField
time_number_at c =
    if c == byte "H" then Some Hour
    else if c == byte "k" then Some SpacedHour
    else if c == byte "I" then Some HalfHour
    else if c == byte "l" then Some SpacedHalfHour
    else if c == byte "M" then Some Minute
    else if c == byte "S" then Some Second
    else if c == byte "f" then Some Nanosecond
    else None

-- the word that it names
unfoldable pub word_at : ℕ → Option WordField
word_at c =
    if c == byte "B" then Some MonthName
    else if (c == byte "b") || (c == byte "h") then Some MonthLetters
    else if c == byte "A" then Some WeekdayName
    else if c == byte "a" then Some WeekdayLetters
    else if c == byte "p" then Some Half
    else if c == byte "P" then Some SmallHalf
    else None

-- the group of numbers and words that it names
unfoldable pub group_at : ℕ → Option GroupField
group_at c =
    if c == byte "F" then Some YearMonthDay
    else if (c == byte "D") || (c == byte "x") then Some MonthDayYear
    else if c == byte "R" then Some HourMinute
    else if (c == byte "T") || (c == byte "X") then Some HourMinuteSecond
    else if c == byte "r" then Some HalfClock
    else if c == byte "v" then Some DayMonthYear
    else if c == byte "c" then Some DateAndTime
    else None

-- the padding that a byte asks for
abbrev pub padding_at : ℕ → Option Padding
padding_at c =
    if c == byte "-" then Some Nothing
    else if c == byte "_" then Some Spaces
    else if c == byte "0" then Some Zeros
    else None

-- behind `%`, and a point or none, a byte is a number of digits
abbrev pub digits_at : Bool → ℕ → Option (State × Item)
digits_at point c =
    if c == byte "3" then Some (Digits point 3, Empty)
    else if c == byte "6" then Some (Digits point 6, Empty)
    else if c == byte "9" then Some (Digits point 9, Empty)
    else None

-- behind a point or a number of digits stands `f`, and behind a point alone also a number of digits
abbrev pub digits_step : Bool → ℕ → ℕ → Option (State × Item)
digits_step point count c =
    if c == byte "f" then Some (Outside, Subsecond point count)
    else if count == 0 then digits_at point c
    else None

-- behind `%` alone, a byte that stands for an offset or a name of a zone, or is the first mark of an offset
abbrev pub zoned_step : ℕ → Option (State × Item)
zoned_step c =
    if c == byte "z" then Some (Outside, Zoned (Offset Plain))
    else if c == byte "Z" then Some (Outside, Zoned ZoneName)
    else if c == byte "+" then Some (Outside, Zoned Iso8601)
    else if c == byte ":" then Some (Marked Colon, Empty)
    else if c == byte "#" then Some (Marked Loose, Empty)
    else digits_at false c

-- the marks of an offset with one more colon
abbrev pub with_colon : OffsetForm → Option OffsetForm
with_colon Plain = Some Colon
with_colon Colon = Some Seconds
with_colon Seconds = Some Hours
with_colon Hours = None
with_colon Loose = None

abbrev pub colon_step : OffsetForm → Option (State × Item)
colon_step form = elim (with_colon form) [ None ↦ None | Some f ↦ Some (Marked f, Empty) ]

-- behind the marks of an offset stands `z`, or one colon more
abbrev pub marked_step : OffsetForm → ℕ → Option (State × Item)
marked_step form c =
    if c == byte "z" then Some (Outside, Zoned (Offset form))
    else if c == byte ":" then colon_step form
    else None

-- behind `%` alone, a byte that names no number, no word and no group, and asks for no padding
abbrev pub single_step : ℕ → Option (State × Item)
single_step c =
    if c == byte "%" then Some (Outside, Byte (byte "%"))
    else if c == byte "n" then Some (Outside, Byte 10)
    else if c == byte "t" then Some (Outside, Byte 9)
    else if c == byte "." then Some (Digits true 0, Empty)
    else zoned_step c

-- one that may name a group
abbrev pub grouped_step : ℕ → Option (State × Item)
grouped_step c = elim (group_at c) [ None ↦ single_step c | Some g ↦ Some (Outside, Group g) ]

-- one that may name a word
abbrev pub named_step : ℕ → Option (State × Item)
named_step c = elim (word_at c) [ None ↦ grouped_step c | Some w ↦ Some (Outside, Word w) ]

-- one that may ask for a padding
unfoldable pub unpadded_step : ℕ → Option (State × Item)
unpadded_step c = elim (padding_at c) [ None ↦ named_step c | Some p ↦ Some (Opened p, Empty) ]

-- any byte behind `%` alone; behind a padding only one that names a number
abbrev pub unless_padded : Padding → ℕ → Option (State × Item)
unless_padded Usual c = unpadded_step c
unless_padded Nothing c = None
unless_padded Spaces c = None
unless_padded Zeros c = None

-- the same where the byte may stand for the seconds from 1970, which no padding changes
abbrev pub stamped_step : Padding → ℕ → Option (State × Item)
stamped_step p c = if c == byte "s" then Some (Outside, Zoned Stamp) else unless_padded p c

-- the same where the byte may name a number of a time of day
abbrev pub timed_step : Padding → ℕ → Option (State × Item)
timed_step p c = elim (time_number_at c) [ None ↦ stamped_step p c | Some n ↦ Some (Outside, Number n p) ]

-- a byte behind `%` and a padding or none
unfoldable pub opened_step : Padding → ℕ → Option (State × Item)
opened_step p c = elim (date_number_at c) [ None ↦ timed_step p c | Some n ↦ Some (Outside, Number n p) ]

-- where a reader stands behind a byte, and what the byte writes, if a pattern may have the byte there
abbrev pub pattern_step : State → ℕ → Option (State × Item)
pattern_step Outside c = if c == byte "%" then Some (Opened Usual, Empty) else Some (Outside, Byte c)
pattern_step (Opened p) c = opened_step p c
pattern_step (Digits point count) c = digits_step point count c
pattern_step (Marked form) c = marked_step form c
