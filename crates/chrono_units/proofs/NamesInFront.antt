-- Three small letters in front of a name are those of its day or its month.
use Rattle.std.proofs.Common.{◌≡◌, ℕ, List, map, take, Some, refl}
use Rattle.std.specs.Char.{to_ascii_lowercase}
use Rattle.chrono_units.specs.Month.{month_name}
use Rattle.chrono_units.specs.Names.{month_of_letters, weekday_name, weekday_of_letters}
use Rattle.chrono_units.specs.declared.month.Month.{Month}
use Rattle.chrono_units.specs.declared.month.Month.TheVariants.{January, February, March, April, May, June, July, August, September, October, November, December}
use Rattle.chrono_units.specs.declared.weekday.Weekday.{Weekday}
use Rattle.chrono_units.specs.declared.weekday.Weekday.TheVariants.{Mon, Tue, Wed, Thu, Fri, Sat, Sun}

weekday_of_its_letters : (d : Weekday) → weekday_of_letters 3 (take 3 (map to_ascii_lowercase (weekday_name d))) ≡ Some d
unfolding weekday_of_letters
weekday_of_its_letters = elim [ Mon ↦ refl | Tue ↦ refl | Wed ↦ refl | Thu ↦ refl | Fri ↦ refl | Sat ↦ refl | Sun ↦ refl ]

pub weekday_in_front : (letters : List ℕ) (d : Weekday) → letters ≡ take 3 (map to_ascii_lowercase (weekday_name d)) → weekday_of_letters 3 letters ≡ Some d
weekday_in_front letters d e = rw e (weekday_of_its_letters d)

month_of_its_letters : (m : Month) → month_of_letters (take 3 (map to_ascii_lowercase (month_name m))) ≡ Some m
unfolding month_of_letters
month_of_its_letters = elim [
  | January ↦ refl
  | February ↦ refl
  | March ↦ refl
  | April ↦ refl
  | May ↦ refl
  | June ↦ refl
  | July ↦ refl
  | August ↦ refl
  | September ↦ refl
  | October ↦ refl
  | November ↦ refl
  | December ↦ refl
]

pub month_in_front : (letters : List ℕ) (m : Month) → letters ≡ take 3 (map to_ascii_lowercase (month_name m)) → month_of_letters letters ≡ Some m
month_in_front letters m e = rw e (month_of_its_letters m)
