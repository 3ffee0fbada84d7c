-- The text of an error: the byte, and what is wrong there, in one line.
use Rattle.std.specs.Prelude.{ℕ, List, ◌++◌, codes}
use Rattle.std.specs.Fmt.{decimal}
use Rattle.chrono_reading.specs.declared.error.ReadError.{ReadError}
use Rattle.chrono_reading.specs.declared.error.ReadCause.{ReadCause}
use Rattle.chrono_reading.specs.declared.error.ReadCause.TheVariants.{NotThisForm, YearOutOfRange, MonthZero, MonthAbove12, DayZero, DayAbove, OrdinalZero, OrdinalAbove, WeekZero, WeekAbove, WeekdayOutOfRange, DateOutOfRange, HourAbove23, MinuteAbove59, SecondAbove60, ZeroInSeconds, DurationOutOfRange, UnknownName}

-- what is wrong, up to a number if there is one, and behind it
unfoldable pub words_before : ReadCause → List ℕ
words_before NotThisForm = codes "not of this form"
words_before YearOutOfRange = codes "the year is not from -262143 to 262142"
words_before MonthZero = codes "the month is 0"
words_before MonthAbove12 = codes "the month is above 12"
words_before DayZero = codes "the day is 0"
words_before (DayAbove days) = codes "the month has "
words_before OrdinalZero = codes "the day of the year is 0"
words_before (OrdinalAbove days) = codes "the year has "
words_before WeekZero = codes "the week is 0"
words_before (WeekAbove weeks) = codes "the year has "
words_before WeekdayOutOfRange = codes "the weekday is not from 1 to 7"
words_before DateOutOfRange = codes "the date is not from -262143-01-01 to 262142-12-31"
words_before HourAbove23 = codes "the hour is above 23"
words_before MinuteAbove59 = codes "the minute is above 59"
words_before SecondAbove60 = codes "the second is above 60"
words_before ZeroInSeconds = codes "a duration of zero is P0D"
words_before DurationOutOfRange = codes "the duration is too long"
words_before UnknownName = codes "an unknown name"

-- the number behind these words, of a cause that has one
unfoldable pub number_in : ReadCause → List ℕ
number_in (DayAbove days) = decimal days ++ codes " days"
number_in (OrdinalAbove days) = decimal days ++ codes " days"
number_in (WeekAbove weeks) = decimal weeks ++ codes " weeks"
number_in others = codes ""

-- the text of an error: its byte, and the words of its cause
unfoldable pub error_text : ReadError → List ℕ
error_text e = codes "byte " ++ (decimal e.byte ++ (codes ": " ++ (words_before e.cause ++ number_in e.cause)))
