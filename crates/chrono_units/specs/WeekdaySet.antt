-- Sets of weekdays, the numbers that order them, and their members in week order from a day.
use Rattle.std.specs.Prelude.{ℕ, zero, suc, ◌+◌, ◌==◌, Bool, true, false, not, ◌&&◌, ◌||◌, if◌then◌else◌, List, [], ◌∷◌, filter, Option, Some, None, IsTrue, position}
use Rattle.std.specs.List.{list_any}
use Rattle.chrono_units.specs.declared.weekday.Weekday.{Weekday}
use Rattle.chrono_units.specs.declared.weekday.Weekday.TheVariants.{Mon, Tue, Wed, Thu, Fri, Sat, Sun}
use Rattle.chrono_units.specs.Weekday.{days_from_monday, next_weekday}

-- a set of weekdays: of each day, whether it is a member
pub record DaySet : Type 0 where
  pub mon : Bool
  pub tue : Bool
  pub wed : Bool
  pub thu : Bool
  pub fri : Bool
  pub sat : Bool
  pub sun : Bool

-- whether d and e are one day
abbrev pub weekday_eq : Weekday → Weekday → Bool
weekday_eq d e = days_from_monday d == days_from_monday e

-- whether the day is in the set
abbrev pub contains : DaySet → Weekday → Bool
contains s Mon = s.mon
contains s Tue = s.tue
contains s Wed = s.wed
contains s Thu = s.thu
contains s Fri = s.fri
contains s Sat = s.sat
contains s Sun = s.sun

-- the set of the days that pass the test
abbrev pub days_where : (Weekday → Bool) → DaySet
days_where p = record { mon = p Mon; tue = p Tue; wed = p Wed; thu = p Thu; fri = p Fri; sat = p Sat; sun = p Sun }

-- each day of a is in b
abbrev pub IsSubset : DaySet → DaySet → Type 0
IsSubset a b = (d : Weekday) → IsTrue (contains a d) → IsTrue (contains b d)

-- the set with no day
abbrev pub no_days : DaySet
no_days = days_where (λ d. false)

-- the set of all seven days
abbrev pub all_days : DaySet
all_days = days_where (λ d. true)

-- the set {d}
abbrev pub single : Weekday → DaySet
single d = days_where (λ e. weekday_eq e d)

-- the set of the days in a list
abbrev pub set_of : List Weekday → DaySet
set_of xs = days_where (λ d. list_any (weekday_eq d) xs)

-- the days in a or b
abbrev pub union : DaySet → DaySet → DaySet
union a b = days_where (λ d. contains a d || contains b d)

-- the days in a and b
abbrev pub intersection : DaySet → DaySet → DaySet
intersection a b = days_where (λ d. contains a d && contains b d)

-- the days in a and not in b
abbrev pub difference : DaySet → DaySet → DaySet
difference a b = days_where (λ d. contains a d && not (contains b d))

-- the days in just one of a and b
abbrev pub symmetric_difference : DaySet → DaySet → DaySet
symmetric_difference a b = days_where (λ d. if contains a d then not (contains b d) else contains b d)

-- n if the digit is set, else 0
abbrev pub place_value : Bool → ℕ → ℕ
place_value b n = if b then n else 0

-- the number with seven binary digits that orders the sets, Monday's digit being the lowest
unfoldable pub set_number : DaySet → ℕ
set_number s =
    place_value s.mon 1 + place_value s.tue 2 + place_value s.wed 4 + place_value s.thu 8
    + place_value s.fri 16 + place_value s.sat 32 + place_value s.sun 64

-- n days in a row, from d on
abbrev pub days_in_row : ℕ → Weekday → List Weekday
days_in_row zero d = []
days_in_row (suc n) d = d ∷ days_in_row n (next_weekday d)

-- the seven days in week order from start on
abbrev pub week_from : Weekday → List Weekday
week_from start = days_in_row 7 start

-- the members of the set in week order from start on, each once
abbrev pub walk : DaySet → Weekday → List Weekday
walk s start = filter (contains s) (week_from start)

-- the day n days after d
abbrev pub weekday_after : Weekday → ℕ → Weekday
weekday_after d zero = d
weekday_after d (suc n) = next_weekday (weekday_after d n)

-- how many of the seven days from d on come before the first member of the set, if it has one: the days from d on to it
unfoldable pub days_until : DaySet → Weekday → Option ℕ
days_until s d = position (contains s) (week_from d)

-- the first of a list of days
abbrev pub first_day : List Weekday → Option Weekday
first_day [] = None
first_day (d ∷ ds) = Some d

-- the last of a list of days
abbrev pub last_day : List Weekday → Option Weekday
last_day [] = None
last_day (d ∷ []) = Some d
last_day (d ∷ e ∷ ds) = last_day (e ∷ ds)
