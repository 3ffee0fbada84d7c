-- The text that answers an input, by what the calendar and the clock count. No stored form of dates is named here.
use Rattle.std.specs.Prelude.{ℕ, List, ◌++◌, ℤ, pos, ◌+ℤ◌, Option, codes}
use Rattle.std.specs.Fmt.{decimal, signed_decimal}
use Rattle.std.specs.List.{flat_map}
use Rattle.std.specs.Option.{option_map, option_map_or, option_and_then}
use Rattle.std.specs.Str.{byte}
use Rattle.chrono_units.specs.WeekdaySet.{walk}
use Rattle.chrono_units.specs.WeekdayText.{weekday_text, set_text}
use Rattle.chrono_clock.specs.Moment.{moment_distance}
use Rattle.chrono_text.specs.Text.{week_text, duration_text}
use Rattle.chrono_calendar.specs.Days.{date_of_day, date_of_yo, ordinal_of}
use Rattle.chrono_calendar.specs.MonthMoves.{month_move}
use Rattle.chrono_calendar.specs.Recurrence.{date_on, date_every}
use Rattle.chrono_calendar.specs.Weeks.{weekday_of, iso_year_of, iso_week_of, date_of_iso, date_of_nth_weekday, week_first_of}
use Rattle.chrono_calendar.specs.YearsBetween.{years_between}
use Rattle.caltool_form.specs.SpacedDays.{spaced_days_text}
use Rattle.caltool_command.specs.Commands.{command_of}
use Rattle.caltool_form.specs.Lines.{lines}
use Rattle.caltool_form.specs.Named.{date_named, moment_named, duration_named, months_of, reach_named}
use Rattle.caltool_form.specs.Texts.{text_of_date, text_of_moment, text_or_none}
use Rattle.caltool_command.specs.declared.command.Command.{Command}
use Rattle.caltool_command.specs.declared.command.Command.TheVariants.{Ymd, Yo, Iwd, Day, Wom, Days, Months, Week, Move, Diff, Since, Set, On, Every}

-- the line of a date: the date, its day number, its weekday, its ISO week and its ordinal
unfoldable pub names_of : ℤ → List ℕ
names_of n =
    text_of_date n ++ codes " " ++ signed_decimal n ++ codes " " ++ weekday_text (weekday_of n) ++ codes " "
    ++ week_text (iso_year_of n) (iso_week_of n) ++ codes " " ++ decimal (ordinal_of n)

-- the line of a date, or `none`
abbrev pub date_line : Option ℤ → List ℕ
date_line date = text_or_none names_of date

-- the first and the last day of a week, each a date or none
unfoldable pub week_line : ℤ → List ℕ
week_line first = text_or_none text_of_date (date_of_day first) ++ codes " " ++ text_or_none text_of_date (date_of_day (first +ℤ pos 6))

-- the text that answers a command
unfoldable pub answer_to : Command → List ℕ
answer_to (Ymd date) = date_line (date_named date)
answer_to (Yo year ordinal) = date_line (date_of_yo year ordinal)
answer_to (Iwd year week weekday) = date_line (date_of_iso year week weekday)
answer_to (Day number) = date_line (date_of_day number)
answer_to (Wom year month weekday nth) = date_line (date_of_nth_weekday year month weekday nth)
answer_to (Days date count) = date_line (option_and_then (λ n. date_of_day (n +ℤ count)) (date_named date))
answer_to (Months date span) = date_line (option_and_then (λ n. month_move n (months_of span)) (date_named date))
answer_to (Week date start) = text_or_none (λ n. week_line (week_first_of n start)) (date_named date)
answer_to (Move from seconds nanoseconds) =
    text_or_none (text_of_moment (byte "T"))
    (option_and_then (λ m. option_and_then (λ x. reach_named m x) (duration_named seconds nanoseconds)) (moment_named from))
answer_to (Diff first second) =
    text_or_none duration_text (option_and_then (λ a. option_map (λ b. moment_distance a b) (moment_named second)) (moment_named first))
answer_to (Since date base) =
    text_or_none decimal (option_and_then (λ n. option_and_then (λ m. years_between n m) (date_named base)) (date_named date))
answer_to (Set start days) = set_text days ++ spaced_days_text (walk days start)
answer_to (On date days) = date_line (option_and_then (λ n. date_on n days) (date_named date))
answer_to (Every date months times) = date_line (option_and_then (λ n. date_every n months times) (date_named date))

-- the answer to a line, without its newline: to its command, if it is one
unfoldable pub answer_of : List ℕ → List ℕ
answer_of line = option_map_or answer_to (command_of line) (codes "error")

-- the answers of these lines, each ended by a newline
abbrev pub answers_of : (List ℕ → List ℕ) → List (List ℕ) → List ℕ
answers_of answer lines = flat_map (λ line. answer line ++ codes "\n") lines

-- what is written for an input
abbrev pub output_of : (List ℕ → List ℕ) → List ℕ → List ℕ
output_of answer bytes = answers_of answer (lines bytes)
