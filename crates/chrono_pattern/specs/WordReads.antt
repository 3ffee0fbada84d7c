-- How words are read, in letters of any case.
use Rattle.std.specs.Prelude.{ℕ, Bool, true, false, ◌&&◌, if◌then◌else◌, nat_le, nat_lt, List, codes, length, take, ℤ, pos, Option, Some, None, Result, Err}
use Rattle.std.specs.Str.{str_eq_ignore_ascii_case}
use Rattle.chrono_datetime.specs.Month.{month_name, number_from_month}
use Rattle.chrono_datetime.specs.Names.{month_of_letters, weekday_name, weekday_of_letters}
use Rattle.chrono_datetime.specs.Weekday.{number_from_monday}
use Rattle.chrono_datetime.specs.declared.Month.{Month}
use Rattle.chrono_datetime.specs.declared.Weekday.{Weekday}
use Rattle.chrono_pattern.specs.Progress.{Progress, put_behind, stopped}
use Rattle.chrono_pattern.specs.declared.error.ReadFault.TheVariants.{Invalid, TooShort}
use Rattle.chrono_pattern.specs.declared.parsed.Parsed.{Parsed}
use Rattle.chrono_pattern.specs.declared.parsed.Part.TheVariants.{MonthOfYear, DayOfWeek, HourDiv12}
use Rattle.chrono_pattern.specs.declared.stop.Stop.{Stop}
use Rattle.chrono_pattern.specs.declared.item.WordField.{WordField}
use Rattle.chrono_pattern.specs.declared.item.WordField.TheVariants.{MonthName, MonthLetters, WeekdayName, WeekdayLetters, Half, SmallHalf}

-- how many bytes of a text are the name: all of it, if the text begins so and the whole name may be read, else its three letters
abbrev pub name_len : Bool → List ℕ → List ℕ → ℕ
name_len whole name text =
    if whole && nat_le (length name) (length text) && str_eq_ignore_ascii_case (take (length name) text) name then length name else 3

-- the month that the first letters of a text name
abbrev pub month_behind : Option Month → Bool → List ℕ → Parsed → Result Progress Stop
month_behind None whole text p = Err (stopped Invalid text)
month_behind (Some m) whole text p = put_behind (name_len whole (month_name m) text) text MonthOfYear (pos (number_from_month m)) p

unfoldable pub month_read : Bool → Progress → Result Progress Stop
month_read whole r = month_behind (month_of_letters (take 3 r.rest)) whole r.rest r.parsed

-- the weekday that they name
abbrev pub weekday_behind : Option Weekday → Bool → List ℕ → Parsed → Result Progress Stop
weekday_behind None whole text p = Err (stopped Invalid text)
weekday_behind (Some d) whole text p = put_behind (name_len whole (weekday_name d) text) text DayOfWeek (pos (number_from_monday d)) p

unfoldable pub weekday_read : Bool → Progress → Result Progress Stop
weekday_read whole r = weekday_behind (weekday_of_letters 3 (take 3 r.rest)) whole r.rest r.parsed

-- the half of the day that two letters name
abbrev pub half_of : List ℕ → Option ℤ
half_of letters =
    if str_eq_ignore_ascii_case letters (codes "am") then Some (pos 0)
    else if str_eq_ignore_ascii_case letters (codes "pm") then Some (pos 1)
    else None

abbrev pub half_behind : Option ℤ → List ℕ → Parsed → Result Progress Stop
half_behind None text p = Err (stopped Invalid text)
half_behind (Some half) text p = put_behind 2 text HourDiv12 half p

unfoldable pub half_read : Progress → Result Progress Stop
half_read r = half_behind (half_of (take 2 r.rest)) r.rest r.parsed

-- the letters of the shortest text of the word
abbrev pub least_letters : WordField → ℕ
least_letters Half = 2
least_letters SmallHalf = 2
least_letters _ = 3

abbrev pub letters_read : WordField → Progress → Result Progress Stop
letters_read MonthName r = month_read true r
letters_read MonthLetters r = month_read false r
letters_read WeekdayName r = weekday_read true r
letters_read WeekdayLetters r = weekday_read false r
letters_read Half r = half_read r
letters_read SmallHalf r = half_read r

-- the word
unfoldable pub word_read : WordField → Progress → Result Progress Stop
word_read word r = if nat_lt (length r.rest) (least_letters word) then Err (stopped TooShort r.rest) else letters_read word r
