-- What is left of a walk when a member is taken from either end.
use Rattle.std.proofs.Common.{◌≡◌, refl, ap, ◌∙◌, Bool, true, false, ◌&&◌, ◌==◌, List, [], ◌∷◌, ◌++◌, length, rules, Option, Some, None}
use Rattle.std.proofs.lemmas.Bool.{and_parts, eqb-true, false≢true}
use Rattle.chrono_units.specs.declared.weekday.Weekday.{Weekday}
use Rattle.chrono_units.specs.declared.weekday.Weekday.TheVariants.{Mon}
use Rattle.chrono_units.specs.WeekdaySet.{DaySet, weekday_eq, single, difference, walk, first_day, last_day}
use Rattle.chrono_units.proofs.EachSet.{each_day, each_day-at, each_set, each_set-at, both}
use Rattle.chrono_units.proofs.WeekdayCycle.{weekday_eq-true}

-- whether two lists have the same days
unfoldable days_eq : List Weekday → List Weekday → Bool
days_eq [] [] = true
days_eq [] (e ∷ es) = false
days_eq (d ∷ ds) [] = false
days_eq (d ∷ ds) (e ∷ es) = weekday_eq d e && days_eq ds es

days_eq-true : (ds es : List Weekday) → days_eq ds es ≡ true → ds ≡ es
unfolding days_eq
days_eq-true [] [] h = refl
days_eq-true [] (e ∷ es) h = absurd (false≢true h)
days_eq-true (d ∷ ds) [] h = absurd (false≢true h)
days_eq-true (d ∷ ds) (e ∷ es) h =
    let parts = and_parts _ _ h in
    let first : d ≡ e = weekday_eq-true d e parts.0 in
    let rest : ds ≡ es = days_eq-true ds es parts.1 in
    cc

-- the walk of s without a day, behind that day; and before it
unfoldable day_first : Option Weekday → DaySet → Weekday → List Weekday
day_first None s start = []
day_first (Some d) s start = d ∷ walk (difference s (single d)) start

unfoldable day_last : Option Weekday → DaySet → Weekday → List Weekday
day_last None s start = []
day_last (Some d) s start = walk (difference s (single d)) start ++ d ∷ []

firsts_taken : each_day (λ start. each_set (λ s. days_eq (walk s start) (day_first (first_day (walk s start)) s start))) ≡ true
unfolding each_day each_set both days_eq day_first
firsts_taken = refl

lasts_taken : each_day (λ start. each_set (λ s. days_eq (walk s start) (day_last (last_day (walk s start)) s start))) ≡ true
unfolding each_day each_set both days_eq day_last
lasts_taken = refl

-- taking the first day of a walk leaves the walk of the other members
pub walk-first : (s : DaySet) (start : Weekday) (d : Weekday) → first_day (walk s start) ≡ Some d → walk s start ≡ d ∷ walk (difference s (single d)) start
unfolding day_first
walk-first s start d h =
    days_eq-true _ _ (each_set-at _ (each_day-at _ firsts_taken start) s) ∙ ap (λ o. day_first o s start) h

-- and so does taking the last
pub walk-last : (s : DaySet) (start : Weekday) (d : Weekday) → last_day (walk s start) ≡ Some d → walk s start ≡ walk (difference s (single d)) start ++ d ∷ []
unfolding day_last
walk-last s start d h =
    days_eq-true _ _ (each_set-at _ (each_day-at _ lasts_taken start) s) ∙ ap (λ o. day_last o s start) h

lengths_agree : each_day (λ start. each_set (λ s. length (walk s Mon) == length (walk s start))) ≡ true
unfolding each_day each_set both
lengths_agree = refl

-- a list with no last day is empty
pub last_day-none : (ds : List Weekday) → last_day ds ≡ None → ds ≡ []
last_day-none [] h = refl
last_day-none (d ∷ []) h = absurd (search (rules, h))
last_day-none (d ∷ e ∷ ds) h = absurd (search (rules, last_day-none (e ∷ ds) h))

-- a walk is as long from every start
pub length-walk : (s : DaySet) (start : Weekday) → length (walk s Mon) ≡ length (walk s start)
length-walk s start = eqb-true _ _ (each_set-at _ (each_day-at _ lengths_agree start) s)
