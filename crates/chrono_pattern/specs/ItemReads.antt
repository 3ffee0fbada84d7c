-- How the items of a pattern are read.
use Rattle.std.specs.Prelude.{ℕ, ◌==◌, ◌||◌, true, if◌then◌else◌, List, [], ◌∷◌, Result, Ok, Err}
use Rattle.std.specs.Str.{byte}
use Rattle.chrono_pattern.specs.NumberReads.{number_read}
use Rattle.chrono_pattern.specs.OffsetReads.{name_read, offset_read, stamp_read, utc_or_offset}
use Rattle.chrono_pattern.specs.Progress.{Progress, behind_blanks, literal_read, stopped, then_read}
use Rattle.chrono_pattern.specs.SubsecondReads.{subsecond_read}
use Rattle.chrono_pattern.specs.WordReads.{word_read}
use Rattle.chrono_pattern.specs.declared.error.ReadFault.TheVariants.{Invalid, TooShort}
use Rattle.chrono_pattern.specs.declared.parsed.Parsed.{Parsed}
use Rattle.chrono_pattern.specs.declared.stop.Stop.{Stop}
use Rattle.chrono_pattern.specs.declared.item.OffsetForm.TheVariants.{Colon}
use Rattle.chrono_pattern.specs.declared.item.ZonedField.{ZonedField}
use Rattle.chrono_pattern.specs.declared.item.ZonedField.TheVariants.{Offset, ZoneName, Stamp, Iso8601}
use Rattle.chrono_pattern.specs.declared.item.NumberField.{NumberField}
use Rattle.chrono_pattern.specs.declared.item.NumberField.TheVariants.{Year, YearOfCentury, Month, Day, SpacedDay, Hour, HalfHour, Minute, Second}
use Rattle.chrono_pattern.specs.declared.item.WordField.{WordField}
use Rattle.chrono_pattern.specs.declared.item.WordField.TheVariants.{MonthLetters, WeekdayLetters, Half}
use Rattle.chrono_pattern.specs.declared.item.GroupField.{GroupField}
use Rattle.chrono_pattern.specs.declared.item.GroupField.TheVariants.{YearMonthDay, MonthDayYear, HourMinute, HourMinuteSecond, HalfClock, DayMonthYear, DateAndTime}
use Rattle.chrono_pattern.specs.declared.item.Item.{Item}
use Rattle.chrono_pattern.specs.declared.item.Item.TheVariants.{Empty, Byte, Number, Word, Group, Subsecond, Zoned}

-- a byte or blanks, and a number behind them
abbrev pub behind_read : ℕ → NumberField → Progress → Result Progress Stop
behind_read c field r = then_read (literal_read c r) (number_read field)

-- a byte or blanks, and a word behind them
abbrev pub word_behind_read : ℕ → WordField → Progress → Result Progress Stop
word_behind_read c word r = then_read (literal_read c r) (word_read word)

-- two numbers with a byte between them
abbrev pub two_read : NumberField → ℕ → NumberField → Progress → Result Progress Stop
two_read first c second r = then_read (number_read first r) (behind_read c second)

-- three numbers with a byte between each two
abbrev pub three_read : NumberField → ℕ → NumberField → NumberField → Progress → Result Progress Stop
three_read first c second third r = then_read (two_read first c second r) (behind_read c third)

-- an hour on the clock of twelve, a minute, a second and the half of the day
abbrev pub half_clock_read : Progress → Result Progress Stop
half_clock_read r = then_read (three_read HalfHour (byte ":") Minute Second r) (word_behind_read (byte " ") Half)

-- a day, a month and a year
abbrev pub short_date_read : Progress → Result Progress Stop
short_date_read r = then_read (then_read (number_read SpacedDay r) (word_behind_read (byte "-") MonthLetters)) (behind_read (byte "-") Year)

-- a weekday, a month and a day
abbrev pub day_read : Progress → Result Progress Stop
day_read r = then_read (then_read (word_read WeekdayLetters r) (word_behind_read (byte " ") MonthLetters)) (behind_read (byte " ") SpacedDay)

-- an hour, a minute, a second and a year, each behind a byte or blanks
abbrev pub clock_year_read : Progress → Result Progress Stop
clock_year_read r =
    then_read (then_read (then_read (behind_read (byte " ") Hour r) (behind_read (byte ":") Minute)) (behind_read (byte ":") Second)) (behind_read (byte " ") Year)

-- the numbers and the words of the group
unfoldable pub group_read : GroupField → Progress → Result Progress Stop
group_read YearMonthDay r = three_read Year (byte "-") Month Day r
group_read MonthDayYear r = three_read Month (byte "/") Day YearOfCentury r
group_read HourMinute r = two_read Hour (byte ":") Minute r
group_read HourMinuteSecond r = three_read Hour (byte ":") Minute Second r
group_read HalfClock r = half_clock_read r
group_read DayMonthYear r = short_date_read r
group_read DateAndTime r = then_read (day_read r) clock_year_read

-- the byte between a date and a time of day (RFC 3339, 5.6)
abbrev pub between_behind : List ℕ → Parsed → Result Progress Stop
between_behind [] p = Err (stopped TooShort [])
between_behind (c ∷ rest) p =
    if (c == byte "T") || (c == byte "t") || (c == byte " ") then Ok (record { rest = rest; parsed = p })
    else Err (stopped Invalid (c ∷ rest))

abbrev pub between_read : Progress → Result Progress Stop
between_read r = between_behind r.rest r.parsed

-- an offset or a name of UTC, behind blanks or none
abbrev pub iso_offset_read : Progress → Result Progress Stop
iso_offset_read r = utc_or_offset true Colon (behind_blanks r.rest) r.parsed

-- a date, a time of day, a fraction or none, and an offset
unfoldable pub iso_read : Progress → Result Progress Stop
iso_read r =
    then_read (then_read (then_read (then_read (group_read YearMonthDay r) between_read) (group_read HourMinuteSecond)) (subsecond_read true 0)) iso_offset_read

-- the piece
abbrev pub zoned_read : ZonedField → Progress → Result Progress Stop
zoned_read (Offset form) r = offset_read form r
zoned_read ZoneName r = name_read r
zoned_read Stamp r = stamp_read r
zoned_read Iso8601 r = iso_read r

-- the item
abbrev pub item_read : Item → Progress → Result Progress Stop
item_read Empty r = Ok r
item_read (Byte c) r = literal_read c r
item_read (Number field p) r = number_read field r
item_read (Word word) r = word_read word r
item_read (Group group) r = group_read group r
item_read (Subsecond point count) r = subsecond_read point count r
item_read (Zoned field) r = zoned_read field r
