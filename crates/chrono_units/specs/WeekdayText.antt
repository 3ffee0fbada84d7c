-- The texts of weekdays and of sets of weekdays, as lists of ASCII codes.
use Rattle.std.specs.Prelude.{ℕ, Bool, if◌then◌else◌, List, [], ◌∷◌, ◌++◌, codes}
use Rattle.chrono_units.specs.declared.weekday.Weekday.{Weekday}
use Rattle.chrono_units.specs.declared.weekday.Weekday.TheVariants.{Mon, Tue, Wed, Thu, Fri, Sat, Sun}
use Rattle.chrono_units.specs.WeekdaySet.{DaySet, walk}

-- the English name of a day in three letters
abbrev pub weekday_text : Weekday → List ℕ
weekday_text Mon = codes "Mon"
weekday_text Tue = codes "Tue"
weekday_text Wed = codes "Wed"
weekday_text Thu = codes "Thu"
weekday_text Fri = codes "Fri"
weekday_text Sat = codes "Sat"
weekday_text Sun = codes "Sun"

-- days that follow others in a list, each after a comma and a space
abbrev pub further_days_text : List Weekday → List ℕ
further_days_text [] = []
further_days_text (d ∷ ds) = codes ", " ++ weekday_text d ++ further_days_text ds

-- days with a comma and a space between each two
abbrev pub days_text : List Weekday → List ℕ
days_text [] = []
days_text (d ∷ ds) = weekday_text d ++ further_days_text ds

-- what `{}` writes for a set: its members from Monday on, in brackets
abbrev pub set_text : DaySet → List ℕ
set_text s = codes "[" ++ days_text (walk s Mon) ++ codes "]"

-- 1 for a member, else 0
unfoldable pub digit_text : Bool → List ℕ
digit_text member = if member then codes "1" else codes "0"

-- what `{:?}` writes for a set: its number in seven binary digits, Sunday's first
abbrev pub set_digits_text : DaySet → List ℕ
set_digits_text s =
    codes "WeekdaySet("
    ++ digit_text s.sun ++ digit_text s.sat ++ digit_text s.fri ++ digit_text s.thu
    ++ digit_text s.wed ++ digit_text s.tue ++ digit_text s.mon ++ codes ")"
