-- Numbers and words that a pattern writes together.
use Rattle.std.specs.Prelude.{ℕ, List, ◌++◌, ◌∷◌}
use Rattle.std.specs.Str.{byte}
use Rattle.chrono_datetime.specs.Moment.{Moment}
use Rattle.chrono_pattern.specs.Numbers.{field_text}
use Rattle.chrono_pattern.specs.Words.{word_text}
use Rattle.chrono_pattern.specs.declared.item.Padding.TheVariants.{Usual}
use Rattle.chrono_pattern.specs.declared.item.NumberField.{NumberField}
use Rattle.chrono_pattern.specs.declared.item.NumberField.TheVariants.{Year, YearOfCentury, Month, Day, SpacedDay, Hour, HalfHour, Minute, Second}
use Rattle.chrono_pattern.specs.declared.item.WordField.TheVariants.{MonthLetters, WeekdayLetters, Half}
use Rattle.chrono_pattern.specs.declared.item.GroupField.{GroupField}
use Rattle.chrono_pattern.specs.declared.item.GroupField.TheVariants.{YearMonthDay, MonthDayYear, HourMinute, HourMinuteSecond, HalfClock, DayMonthYear, DateAndTime}

-- a number with the padding of its own specifier
abbrev pub usual_text : NumberField → Moment → List ℕ
usual_text field m = field_text field Usual m

-- an hour, a minute and a second
abbrev pub clock_with : NumberField → Moment → List ℕ
clock_with hour m = usual_text hour m ++ byte ":" ∷ usual_text Minute m ++ byte ":" ∷ usual_text Second m

-- the numbers and the words of the group
unfoldable pub group_text : GroupField → Moment → List ℕ
group_text YearMonthDay m = usual_text Year m ++ byte "-" ∷ usual_text Month m ++ byte "-" ∷ usual_text Day m
group_text MonthDayYear m = usual_text Month m ++ byte "/" ∷ usual_text Day m ++ byte "/" ∷ usual_text YearOfCentury m
group_text HourMinute m = usual_text Hour m ++ byte ":" ∷ usual_text Minute m
group_text HourMinuteSecond m = clock_with Hour m
group_text HalfClock m = clock_with HalfHour m ++ byte " " ∷ word_text Half m
group_text DayMonthYear m = usual_text SpacedDay m ++ byte "-" ∷ word_text MonthLetters m ++ byte "-" ∷ usual_text Year m
group_text DateAndTime m = (word_text WeekdayLetters m ++ byte " " ∷ word_text MonthLetters m ++ byte " " ∷ usual_text SpacedDay m) ++ byte " " ∷ clock_with Hour m ++ byte " " ∷ usual_text Year m
