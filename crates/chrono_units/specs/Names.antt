-- The names of weekdays and months, and the texts that name them.
use Rattle.std.specs.Prelude.{◌≡◌, ℕ, ◌⊎◌, Bool, List, codes, map, take, if◌then◌else◌, Option, Some, None, refl}
use Rattle.std.specs.Char.{to_ascii_lowercase}
use Rattle.std.specs.Str.{str_eq_ignore_ascii_case}
use Rattle.chrono_units.specs.Month.{month_name}
use Rattle.chrono_units.specs.declared.weekday.Weekday.{Weekday}
use Rattle.chrono_units.specs.declared.weekday.Weekday.TheVariants.{Mon, Tue, Wed, Thu, Fri, Sat, Sun}
use Rattle.chrono_units.specs.declared.month.Month.{Month}
use Rattle.chrono_units.specs.declared.month.Month.TheVariants.{January, February, March, April, May, June, July, August, September, October, November, December}

-- the English name of a day
abbrev pub weekday_name : Weekday → List ℕ
weekday_name Mon = codes "Monday"
weekday_name Tue = codes "Tuesday"
weekday_name Wed = codes "Wednesday"
weekday_name Thu = codes "Thursday"
weekday_name Fri = codes "Friday"
weekday_name Sat = codes "Saturday"
weekday_name Sun = codes "Sunday"

-- a day as RFC 5545 writes it (section 3.3.10, weekday)
abbrev pub weekday_letters : Weekday → List ℕ
weekday_letters Mon = codes "MO"
weekday_letters Tue = codes "TU"
weekday_letters Wed = codes "WE"
weekday_letters Thu = codes "TH"
weekday_letters Fri = codes "FR"
weekday_letters Sat = codes "SA"
weekday_letters Sun = codes "SU"

-- the texts are the same but for the case of their letters
abbrev pub SameLetters : List ℕ → List ℕ → Type 0
SameLetters text name = map to_ascii_lowercase text ≡ map to_ascii_lowercase name

-- the text is a name of three letters or more, or its first three letters
abbrev pub IsNameText : List ℕ → List ℕ → Type 0
IsNameText text name = SameLetters text name ⊎ SameLetters text (take 3 name)

-- the text names the day
abbrev pub IsWeekdayText : List ℕ → Weekday → Type 0
IsWeekdayText text d = IsNameText text (weekday_name d)

-- the text names the month
abbrev pub IsMonthText : List ℕ → Month → Type 0
IsMonthText text m = IsNameText text (month_name m)

-- the text is so many first letters of the name, in letters of any case
abbrev pub begins : ℕ → List ℕ → List ℕ → Bool
begins count text name = str_eq_ignore_ascii_case text (take count name)

-- the day of whose name the text is so many first letters: two, as RFC 5545 writes days, or three
unfoldable pub weekday_of_letters : ℕ → List ℕ → Option Weekday
weekday_of_letters count text =
    if begins count text (weekday_name Mon) then Some Mon
    else if begins count text (weekday_name Tue) then Some Tue
    else if begins count text (weekday_name Wed) then Some Wed
    else if begins count text (weekday_name Thu) then Some Thu
    else if begins count text (weekday_name Fri) then Some Fri
    else if begins count text (weekday_name Sat) then Some Sat
    else if begins count text (weekday_name Sun) then Some Sun
    else None

-- the month of whose name the text is the first three letters
unfoldable pub month_of_letters : List ℕ → Option Month
month_of_letters text =
    if begins 3 text (month_name January) then Some January
    else if begins 3 text (month_name February) then Some February
    else if begins 3 text (month_name March) then Some March
    else if begins 3 text (month_name April) then Some April
    else if begins 3 text (month_name May) then Some May
    else if begins 3 text (month_name June) then Some June
    else if begins 3 text (month_name July) then Some July
    else if begins 3 text (month_name August) then Some August
    else if begins 3 text (month_name September) then Some September
    else if begins 3 text (month_name October) then Some October
    else if begins 3 text (month_name November) then Some November
    else if begins 3 text (month_name December) then Some December
    else None

-- known values: two letters and three, of either case, and a text that is neither
weekday_of_letters-two : weekday_of_letters 2 (codes "tH") ≡ Some Thu
unfolding weekday_of_letters
weekday_of_letters-two = refl

weekday_of_letters-three : weekday_of_letters 3 (codes "Tue") ≡ Some Tue
unfolding weekday_of_letters
weekday_of_letters-three = refl

weekday_of_letters-short : weekday_of_letters 2 (codes "T") ≡ None
unfolding weekday_of_letters
weekday_of_letters-short = refl

weekday_of_letters-long : weekday_of_letters 3 (codes "Tues") ≡ None
unfolding weekday_of_letters
weekday_of_letters-long = refl

month_of_letters-june : month_of_letters (codes "JUN") ≡ Some June
unfolding month_of_letters
month_of_letters-june = refl
