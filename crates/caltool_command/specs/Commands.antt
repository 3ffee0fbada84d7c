-- The commands: which numbers each of them takes, and what they ask for.
use Rattle.std.specs.Prelude.{ℕ, ℤ, List, [], ◌∷◌, Option, Some, None, Bool, length, nat_lt, codes, if◌then◌else◌}
use Rattle.std.specs.Str.{bytes_eq}
use Rattle.std.specs.Option.{option_map, option_and_then}
use Rattle.chrono_units.specs.declared.weekday.Weekday.{Weekday}
use Rattle.chrono_units.specs.WeekdaySet.{DaySet, set_of}
use Rattle.chrono_text.specs.Numbers.{to_i64, to_i32, to_u32, to_u8}
use Rattle.caltool_command.specs.Types.{to_months, to_weekday}
use Rattle.caltool_command.specs.Grammar.{arguments_of}
use Rattle.caltool_command.specs.declared.arguments.CalendarDate.{CalendarDate}
use Rattle.caltool_command.specs.declared.arguments.ClockTime.{ClockTime}
use Rattle.caltool_command.specs.declared.arguments.DateAndTime.{DateAndTime}
use Rattle.caltool_command.specs.declared.command.Command.{Command}
use Rattle.caltool_command.specs.declared.command.Command.TheVariants.{Ymd, Yo, Iwd, Day, Wom, Days, Months, Week, Move, Diff, Since, Set, On, Every}
use Rattle.caltool_command.specs.declared.name.Name.{Name}
use Rattle.caltool_command.specs.declared.name.Name.TheVariants as name

-- a function of an argument, where both are there
infixl 10 ◌·◌
abbrev pub ◌·◌ : {A B : Type 0} → Option (A → B) → Option A → Option B
None · a = None
Some f · None = None
Some f · Some a = Some (f a)

-- a year, a month and a day
unfoldable pub calendar_date : ℤ → ℤ → ℤ → Option CalendarDate
calendar_date year month day =
    Some (λ y m d. record { year = y; month = m; day = d }) · to_i32 year · to_u32 month · to_u32 day

-- an hour, a minute, a second and a nanosecond
unfoldable pub clock_time : ℤ → ℤ → ℤ → ℤ → Option ClockTime
clock_time hour minute second nanosecond =
    Some (λ h m s n. record { hour = h; minute = m; second = s; nanosecond = n })
    · to_u32 hour · to_u32 minute · to_u32 second · to_u32 nanosecond

-- a date and a time of day
unfoldable pub date_and_time : Option CalendarDate → Option ClockTime → Option DateAndTime
date_and_time date time = Some (λ d t. record { date = d; time = t }) · date · time

-- weekdays
unfoldable pub weekdays : List ℤ → Option (List Weekday)
weekdays [] = Some []
weekdays (number ∷ numbers) = Some (λ day days. day ∷ days) · to_weekday number · weekdays numbers

-- weekdays as a set
unfoldable pub weekday_set : List ℤ → Option DaySet
weekday_set numbers = option_map set_of (weekdays numbers)

-- the command of this name and these numbers, if they are as many as it takes and each is in its range
unfoldable pub command_from : Name → List ℤ → Option Command
command_from name.Ymd (year ∷ month ∷ day ∷ []) = Some (λ date. Ymd date) · calendar_date year month day
command_from name.Yo (year ∷ ordinal ∷ []) = Some (λ y o. Yo y o) · to_i32 year · to_u32 ordinal
command_from name.Iwd (year ∷ week ∷ day ∷ []) = Some (λ y w d. Iwd y w d) · to_i32 year · to_u32 week · to_weekday day
command_from name.Day (number ∷ []) = Some (λ n. Day n) · to_i32 number
command_from name.Wom (year ∷ month ∷ day ∷ nth ∷ []) =
    Some (λ y m d n. Wom y m d n) · to_i32 year · to_u32 month · to_weekday day · to_u8 nth
command_from name.Days (year ∷ month ∷ day ∷ count ∷ []) =
    Some (λ date n. Days date n) · calendar_date year month day · to_i64 count
command_from name.Months (year ∷ month ∷ day ∷ months ∷ []) =
    Some (λ date span. Months date span) · calendar_date year month day · to_months months
command_from name.Week (year ∷ month ∷ day ∷ start ∷ []) =
    Some (λ date first. Week date first) · calendar_date year month day · to_weekday start
command_from name.Move (year ∷ month ∷ day ∷ hour ∷ minute ∷ second ∷ fraction ∷ seconds ∷ nanoseconds ∷ []) =
    Some (λ from s n. Move from s n)
    · date_and_time (calendar_date year month day) (clock_time hour minute second fraction) · to_i64 seconds · to_u32 nanoseconds
command_from name.Diff (year ∷ month ∷ day ∷ hour ∷ minute ∷ second ∷ fraction ∷ year_2 ∷ month_2 ∷ day_2 ∷ hour_2 ∷ minute_2 ∷ second_2 ∷ fraction_2 ∷ []) =
    Some (λ from to. Diff from to)
    · date_and_time (calendar_date year month day) (clock_time hour minute second fraction)
    · date_and_time (calendar_date year_2 month_2 day_2) (clock_time hour_2 minute_2 second_2 fraction_2)
command_from name.Since (year ∷ month ∷ day ∷ year_2 ∷ month_2 ∷ day_2 ∷ []) =
    Some (λ date base. Since date base) · calendar_date year month day · calendar_date year_2 month_2 day_2
command_from name.Set (start ∷ numbers) = Some (λ day days. Set day days) · to_weekday start · weekday_set numbers
command_from name.On (year ∷ month ∷ day ∷ numbers) = Some (λ date days. On date days) · calendar_date year month day · weekday_set numbers
command_from name.Every (year ∷ month ∷ day ∷ months ∷ times ∷ []) =
    Some (λ date m t. Every date m t) · calendar_date year month day · to_i32 months · to_u32 times
command_from _ _ = None

-- the command word that these bytes are
unfoldable pub name_of : List ℕ → Option Name
name_of word =
    if bytes_eq word (codes "ymd") then Some name.Ymd
    else if bytes_eq word (codes "yo") then Some name.Yo
    else if bytes_eq word (codes "iwd") then Some name.Iwd
    else if bytes_eq word (codes "day") then Some name.Day
    else if bytes_eq word (codes "wom") then Some name.Wom
    else if bytes_eq word (codes "days") then Some name.Days
    else if bytes_eq word (codes "months") then Some name.Months
    else if bytes_eq word (codes "week") then Some name.Week
    else if bytes_eq word (codes "move") then Some name.Move
    else if bytes_eq word (codes "diff") then Some name.Diff
    else if bytes_eq word (codes "since") then Some name.Since
    else if bytes_eq word (codes "set") then Some name.Set
    else if bytes_eq word (codes "on") then Some name.On
    else if bytes_eq word (codes "every") then Some name.Every
    else None

-- the command of a word and numbers
unfoldable pub command_named : List ℕ → List ℤ → Option Command
command_named word numbers = option_and_then (λ name. command_from name numbers) (name_of word)

-- a line has more than 120 bytes
abbrev pub is_long : List ℕ → Bool
is_long line = nat_lt 120 (length line)

-- the command of a line
unfoldable pub command_of : List ℕ → Option Command
command_of line = if is_long line then None else option_and_then (λ read. command_named read.0 read.1) (arguments_of line)
