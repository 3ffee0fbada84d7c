-- Sets by their members: subsets, sets of one day, and sets that grow by a day.
use Rattle.std.proofs.Common.{◌≡◌, ℕ, ◌^◌, ◌<◌, ◌==◌, refl, ap, sym, ◌∙◌, Bool, true, false, not, ◌&&◌, ◌||◌, IsTrue, ◌↔◌, if◌then◌else◌, List, [], ◌∷◌, ◌++◌, Some}
use Rattle.std.specs.List.{list_any}
use Rattle.std.proofs.lemmas.Bool.{and_right, cond-true, eq-eqb, eqb-true, false≢true, not-false, not_from_true, or_right}
use Rattle.std.proofs.lemmas.List.Folds.{list_any-append}
use lib.Count.{ones}
use Rattle.chrono_units.specs.declared.weekday.Weekday.{Weekday}
use Rattle.chrono_units.specs.declared.weekday.Weekday.TheVariants.{Mon, Tue, Wed, Thu, Fri, Sat, Sun}
use Rattle.chrono_units.specs.Weekday.{days_from_monday}
use Rattle.chrono_units.specs.WeekdaySet.{DaySet, weekday_eq, contains, IsSubset, no_days, single, set_of, union, difference, walk, first_day, set_number}
use Rattle.chrono_units.specs.SetDigits.{set_at, set_number-set_at}
use Rattle.chrono_units.proofs.EachSet.{contains-days_where, each_number, each_number-at, same_days}
use Rattle.chrono_units.proofs.WeekdayCycle.{weekday_eq-true}
use Rattle.chrono_units.proofs.SetDigitLemmas.{set_at-digit}
use Rattle.chrono_units.proofs.SetPlaces.{place}

-- ---- subsets

implied : (x y : Bool) → (x && not y) ≡ false → IsTrue x → IsTrue y
implied true true none holds = refl
implied true false none holds = sym none
implied false y none holds = absurd (false≢true holds)

none_left : (x y : Bool) → (IsTrue x → IsTrue y) → (x && not y) ≡ false
none_left true true h = refl
none_left true false h = sym (h refl)
none_left false y h = refl

-- no day of a is missing in b exactly if each day of a is in b
pub subset_iff : (a b : DaySet) → (difference a b ≡ no_days) ↔ IsSubset a b
subset_iff a b = (
  λ none.
      elim [
        | Mon ↦ implied _ _ (ap (λ s. s.mon) none)
        | Tue ↦ implied _ _ (ap (λ s. s.tue) none)
        | Wed ↦ implied _ _ (ap (λ s. s.wed) none)
        | Thu ↦ implied _ _ (ap (λ s. s.thu) none)
        | Fri ↦ implied _ _ (ap (λ s. s.fri) none)
        | Sat ↦ implied _ _ (ap (λ s. s.sat) none)
        | Sun ↦ implied _ _ (ap (λ s. s.sun) none)
      ],
  λ h.
      same_days _ _
      (elim [
        | Mon ↦ none_left _ _ (h Mon)
        | Tue ↦ none_left _ _ (h Tue)
        | Wed ↦ none_left _ _ (h Wed)
        | Thu ↦ none_left _ _ (h Thu)
        | Fri ↦ none_left _ _ (h Fri)
        | Sat ↦ none_left _ _ (h Sat)
        | Sun ↦ none_left _ _ (h Sun)
      ]),
)

-- ---- sets of one day

-- a number with one digit is that digit
singles_found : each_number (λ n. if ones n == 1 then (n == 2 ^ place (first_day (walk (set_at n) Mon))) else true) ≡ true
unfolding each_number ones
singles_found = refl

-- a set with one member is the set of that member
pub single-of_first : (n : ℕ) → n < 128 → ones n ≡ 1 → (d : Weekday) → first_day (walk (set_at n) Mon) ≡ Some d → set_at n ≡ single d
single-of_first n small one d first =
    let power : n ≡ 2 ^ place (first_day (walk (set_at n) Mon)) =
    eqb-true _ _ (sym (cond-true (ones n == 1) _ true (eq-eqb _ _ one)) ∙ each_number-at _ singles_found n small) in
    ap set_at (power ∙ ap (λ o. 2 ^ place o) first) ∙ set_at-digit d

ones-digit : (d : Weekday) → ones (2 ^ days_from_monday d) ≡ 1
unfolding ones
ones-digit = elim [ Mon ↦ refl | Tue ↦ refl | Wed ↦ refl | Thu ↦ refl | Fri ↦ refl | Sat ↦ refl | Sun ↦ refl ]

set_number-single : (d : Weekday) → set_number (single d) ≡ 2 ^ days_from_monday d
unfolding set_number
set_number-single = elim [ Mon ↦ refl | Tue ↦ refl | Wed ↦ refl | Thu ↦ refl | Fri ↦ refl | Sat ↦ refl | Sun ↦ refl ]

-- the set of one day has one member
pub ones-single : (n : ℕ) → n < 128 → (d : Weekday) → set_at n ≡ single d → ones n ≡ 1
ones-single n h d same =
    ap ones (sym (set_number-set_at n h) ∙ ap set_number same ∙ set_number-single d) ∙ ones-digit d

-- and that day is its first
pub first_day-single : (d : Weekday) → first_day (walk (single d) Mon) ≡ Some d
first_day-single = elim [ Mon ↦ refl | Tue ↦ refl | Wed ↦ refl | Thu ↦ refl | Fri ↦ refl | Sat ↦ refl | Sun ↦ refl ]

-- ---- a day more

pub or-or_false : (x y : Bool) → (x || (y || false)) ≡ (x || y)
or-or_false true y = refl
or-or_false false true = refl
or-or_false false false = refl

-- a list with a day more has the set with that day more
pub set_of-push : (ds : List Weekday) (d : Weekday) → set_of (ds ++ d ∷ []) ≡ union (set_of ds) (single d)
set_of-push ds d =
    let grown : (e : Weekday) → list_any (weekday_eq e) (ds ++ d ∷ []) ≡ (list_any (weekday_eq e) ds || weekday_eq e d) =
    λ e. list_any-append (weekday_eq e) ds (d ∷ []) ∙ or-or_false _ _ in
    same_days _ _
    (elim [ Mon ↦ grown Mon | Tue ↦ grown Tue | Wed ↦ grown Wed | Thu ↦ grown Thu | Fri ↦ grown Fri | Sat ↦ grown Sat | Sun ↦ grown Sun ])

-- ---- what an insert and a removal change

pub or-known : (x y : Bool) → (y ≡ true → x ≡ true) → (x || y) ≡ x
or-known true y h = refl
or-known false true h = sym (h refl)
or-known false false h = refl

and_unknown : (x y : Bool) → (y ≡ true → x ≡ false) → (x && not y) ≡ x
and_unknown true true h = sym (h refl)
and_unknown true false h = refl
and_unknown false y h = refl

-- whether e is the day of {d}
contains-single : (d e : Weekday) → contains (single d) e ≡ weekday_eq e d
contains-single d e = contains-days_where (λ k. weekday_eq k d) e

weekday_eq-same : (d : Weekday) → weekday_eq d d ≡ true
weekday_eq-same d = eq-eqb _ _ refl

-- a set stays as it is with a day more exactly if it has that day
pub insert_same : (s : DaySet) (d : Weekday) → (not (contains s d) ≡ false) ↔ (union s (single d) ≡ s)
insert_same s d = (
  λ known.
      same_days _ _ (λ e.
      contains-days_where (λ k. contains s k || contains (single d) k) e
      ∙ or-known _ _ (λ is. ap (contains s) (weekday_eq-true e d (sym (contains-single d e) ∙ is)) ∙ not-false _ known)),
  λ same.
      ap not
      (sym (ap (λ t. contains t d) same)
      ∙ contains-days_where (λ k. contains s k || contains (single d) k) d
      ∙ or_right _ _ (contains-single d d ∙ weekday_eq-same d)),
)

-- a set stays as it is with a day less exactly if it does not have that day
pub remove_same : (s : DaySet) (d : Weekday) → (contains s d ≡ false) ↔ (difference s (single d) ≡ s)
remove_same s d = (
  λ unknown.
      same_days _ _ (λ e.
      contains-days_where (λ k. contains s k && not (contains (single d) k)) e
      ∙ and_unknown _ _ (λ is. ap (contains s) (weekday_eq-true e d (sym (contains-single d e) ∙ is)) ∙ unknown)),
  λ same.
      sym (ap (λ t. contains t d) same)
      ∙ contains-days_where (λ k. contains s k && not (contains (single d) k)) d
      ∙ and_right _ _ (not_from_true _ (contains-single d d ∙ weekday_eq-same d)),
)
