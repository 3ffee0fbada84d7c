-- Lists that are read have numbers of their parts alone.
use Rattle.std.proofs.Common.{◌≡◌, ℕ, zero, suc, ◌+◌, ◌-◌, ◌<◌, ◌≤◌, ◌==◌, nat_le, Bool, true, false, ◌&&◌, ◌||◌, if◌then◌else◌, List, [], ◌∷◌, length, drop, get_or, set, take, Option, Some, None, refl, sym, ap, ◌∙◌, subst, arith}
use Rattle.std.specs.List.{list_all}
use Rattle.std.specs.Option.{option_map}
use Rattle.std.proofs.lemmas.Bool.{and_from, and_parts, eqb-true, false≢true, leb-true}
use Rattle.std.proofs.lemmas.Option.{cond_some, none-some, option_and_then_some, same_Some}
use Rattle.chrono_datetime.specs.Names.{weekday_of_letters}
use Rattle.chrono_datetime.specs.Weekday.{days_from_monday}
use Rattle.chrono_datetime.proofs.WeekdayCycle.{days_from_monday-lt}
use Rattle.chrono_sets.specs.FiniteSets.{FiniteSet, has, lies_within, no_numbers, with_number}
use Rattle.chrono_sets.proofs.Members.{has-with_number, lies_within-all, lies_within-has}
use Rattle.chrono_text.specs.Numbers.{digits_of, if_within}
use Rattle.chrono_text.proofs.NumberLemmas.{mapped}
use Rattle.chrono_rules.specs.NumberLists.{signed_list_of, listed_number, month_list_of, no_signed, no_year_ends, signed_number, signed_number_of, listed_weekday, weekdays_of, with_month_text, with_nth, with_nth_of, with_signed, with_signed_day, with_signed_text, with_weekday, with_weekday_text, with_year_text, signed_year_list_of}
use Rattle.chrono_rules.specs.RuleParts.{no_weekdays}
use Rattle.chrono_rules.specs.RuleTexts.{said}
use Rattle.chrono_text.specs.Lists.{pieces, through}
use Rattle.chrono_rules.specs.WritableRules.{is_from_one_to}
use Rattle.chrono_rules.specs.declared.text.number_list.BothEnds.{BothEnds}
use Rattle.chrono_rules.specs.declared.text.number_list.SignedNumber.{SignedNumber}
use Rattle.chrono_rules.specs.declared.text.year_day_list.YearEnds.{YearEnds}
use Rattle.chrono_rules.specs.declared.weekday_places.WeekdayPlaces.{WeekdayPlaces}

-- ---- options

pub guarded : {A : Type 0} (b : Bool) (o : Option A) (x : A) (P : Type 0) → (b ≡ true → o ≡ Some x → P) → (if b then o else None) ≡ Some x → P
guarded true o x P then_it is = then_it refl is
guarded false o x P then_it is = absurd (none-some x is)

-- what each step keeps holds at the end
through_keeps : {S : Type 0} (step : S → List ℕ → Option S) (P : S → Type 0) → ((s t : S) (text : List ℕ) → P s → step s text ≡ Some t → P t)
    → (s t : S) (texts : List (List ℕ)) → P s → through step s texts ≡ Some t → P t
through_keeps step P keep s t [] at is = subst P (same_Some s t is) at
through_keeps {S} step P keep s t (text ∷ texts) at is =
    option_and_then_some (λ u. through step u texts) (step s text) t is (λ u made rest. through_keeps step P keep u t texts (keep s u text at made) rest)

-- a part that is there was read, and one that is not says what its absence says
pub said_has : {A : Type 0} (read : List ℕ → Option A) (without : Option A) (P : A → Type 0) → ((x : A) → without ≡ Some x → P x) → ((text : List ℕ) (x : A) → read text ≡ Some x → P x)
    → (texts : List (List ℕ)) (x : A) → said read without texts ≡ Some x → P x
said_has read without P absent there [] x is = absent x is
said_has read without P absent there (text ∷ []) x is = there text x is
said_has read without P absent there (text ∷ next ∷ more) x is = absurd (none-some x is)

-- ---- numbers

from_one-bounds : (most x n : ℕ) → if_within 1 most x ≡ Some n → (1 ≤ n) × (n ≤ most)
from_one-bounds most x n is =
    let found = cond_some (nat_le 1 x && nat_le x most) x n is in
    let parts = and_parts (nat_le 1 x) (nat_le x most) found.0 in
    let low = leb-true 1 x parts.0 in
    let high = leb-true x most parts.1 in
    (omega (arith, low, found.1), omega (arith, high, found.1))

number_bounds : (digits most : ℕ) (text : List ℕ) (n : ℕ) → listed_number digits most text ≡ Some n → (1 ≤ n) × (n ≤ most)
unfolding listed_number
number_bounds digits most text n is = option_and_then_some (if_within 1 most) (digits_of digits text) n is (λ x made given. from_one-bounds most x n given)

placed_bounds : (from_end : Bool) (digits most : ℕ) (text : List ℕ) (p : SignedNumber) → option_map (signed_number from_end) (listed_number digits most text) ≡ Some p → (1 ≤ p.number) × (p.number ≤ most)
placed_bounds from_end digits most text p is =
    let found = mapped (signed_number from_end) (listed_number digits most text) p is in
    let bounds = number_bounds digits most text found.0 found.1 in
    let same = ap (λ (q : SignedNumber). q.number) found.2 in
    (omega (arith, bounds.0, same), omega (arith, bounds.1, same))

signed_bounds : (minus plus : Bool) (digits most : ℕ) (text whole : List ℕ) (p : SignedNumber)
    → (if minus then option_map (signed_number true) (listed_number digits most text) else if plus then option_map (signed_number false) (listed_number digits most text) else option_map (signed_number false) (listed_number digits most whole)) ≡ Some p
    → (1 ≤ p.number) × (p.number ≤ most)
signed_bounds true plus digits most text whole p is = placed_bounds true digits most text p is
signed_bounds false true digits most text whole p is = placed_bounds false digits most text p is
signed_bounds false false digits most text whole p is = placed_bounds false digits most whole p is

place_bounds : (digits most : ℕ) (text : List ℕ) (p : SignedNumber) → signed_number_of digits most text ≡ Some p → (1 ≤ p.number) × (p.number ≤ most)
unfolding signed_number_of
place_bounds digits most [] p is = absurd (none-some p is)
place_bounds digits most (sign ∷ text) p is = signed_bounds (sign == 45) (sign == 43) digits most text (sign ∷ text) p is

-- ---- sets

member_within : (first end n k : ℕ) (a b : Bool) → (a ≡ true → (first ≤ k) × (k < end)) → (k == n) ≡ b → (first ≤ n) × (n < end) → (a || b) ≡ true → (first ≤ k) × (k < end)
member_within first end n k true b within same bounds is = within refl
member_within first end n k false true within same bounds is =
    let at = eqb-true k n same in
    (omega (arith, at, bounds.0), omega (arith, at, bounds.1))
member_within first end n k false false within same bounds is = absurd (false≢true is)

-- a set with one more number that it may have
with_within : (first end : ℕ) (s : FiniteSet) (n : ℕ) → lies_within first end s ≡ true → (first ≤ n) × (n < end) → lies_within first end (with_number s n) ≡ true
with_within first end s n is bounds =
    lies_within-all first end (with_number s n)
    (λ k at. member_within first end n k (has s k) (k == n) (lies_within-has first end s is k) refl bounds (sym (has-with_number s n k) ∙ at))

set_with : (most : ℕ) (s : FiniteSet) (n : ℕ) → is_from_one_to most s ≡ true → (1 ≤ n) × (n ≤ most) → is_from_one_to most (with_number s n) ≡ true
set_with most s n is bounds = with_within 1 (most + 1) s n is (bounds.0, omega (arith, bounds.1))

-- BYMONTH
month_kept : (s t : FiniteSet) (text : List ℕ) → is_from_one_to 12 s ≡ true → with_month_text s text ≡ Some t → is_from_one_to 12 t ≡ true
unfolding with_month_text
month_kept s t text at is =
    let found = mapped (with_number s) (listed_number 2 12 text) t is in
    subst (λ u. is_from_one_to 12 u ≡ true) (sym found.2) (set_with 12 s found.0 at (number_bounds 2 12 text found.0 found.1))

pub months_within : (text : List ℕ) (set : FiniteSet) → month_list_of text ≡ Some set → is_from_one_to 12 set ≡ true
unfolding month_list_of
months_within text set is = through_keeps with_month_text (λ s. is_from_one_to 12 s ≡ true) month_kept no_numbers set (pieces 44 text) refl is

-- BYMONTHDAY and BYWEEKNO
abbrev pub AreEnds : ℕ → BothEnds → Type 0
AreEnds most ends = (is_from_one_to most ends.front ≡ true) × (is_from_one_to most ends.back ≡ true)

signed_kept : (most : ℕ) (s : BothEnds) (p : SignedNumber) (from_end : Bool) → p.from_end ≡ from_end → AreEnds most s → (1 ≤ p.number) × (p.number ≤ most)
    → AreEnds most (if from_end then record { front = s.front; back = with_number s.back p.number } else record { front = with_number s.front p.number; back = s.back })
signed_kept most s p true same at bounds = (at.0, set_with most s.back p.number at.1 bounds)
signed_kept most s p false same at bounds = (set_with most s.front p.number at.0 bounds, at.1)

end_kept : (most : ℕ) (s t : BothEnds) (text : List ℕ) → AreEnds most s → with_signed_text 2 most s text ≡ Some t → AreEnds most t
unfolding with_signed_text
end_kept most s t text at is =
    let found = mapped (with_signed s) (signed_number_of 2 most text) t is in
    subst (AreEnds most) (sym found.2) (signed_kept most s found.0 found.0.from_end refl at (place_bounds 2 most text found.0 found.1))

pub ends_within : (most : ℕ) → AreEnds most no_signed → (text : List ℕ) (ends : BothEnds) → signed_list_of 2 most text ≡ Some ends → AreEnds most ends
unfolding signed_list_of
ends_within most none text ends is = through_keeps (with_signed_text 2 most) (AreEnds most) (end_kept most) no_signed ends (pieces 44 text) none is

-- ---- the sets of seven weekdays

all_set : (p : FiniteSet → Bool) (sets : List FiniteSet) (i : ℕ) (x : FiniteSet) → list_all p sets ≡ true → p x ≡ true → list_all p (set sets i x) ≡ true
all_set p [] i x all one = refl
all_set p (s ∷ sets) zero x all one = and_from (p x) (list_all p sets) one (and_parts (p s) (list_all p sets) all).1
all_set p (s ∷ sets) (suc i) x all one =
    let parts = and_parts (p s) (list_all p sets) all in
    and_from (p s) (list_all p (set sets i x)) parts.0 (all_set p sets i x parts.1 one)

all_get : (p : FiniteSet → Bool) (sets : List FiniteSet) (i : ℕ) (d : FiniteSet) → list_all p sets ≡ true → p d ≡ true → p (get_or sets i d) ≡ true
all_get p [] i d all one = one
all_get p (s ∷ sets) zero d all one = (and_parts (p s) (list_all p sets) all).0
all_get p (s ∷ sets) (suc i) d all one = all_get p sets i d (and_parts (p s) (list_all p sets) all).1 one

-- BYDAY
pub record AreDays (days : WeekdayPlaces) : Type 0 where
  pub every : lies_within 0 7 days.every ≡ true
  pub front : list_all (is_from_one_to 53) days.front ≡ true
  pub back : list_all (is_from_one_to 53) days.back ≡ true

nth_with : (sets : List FiniteSet) (w n : ℕ) → list_all (is_from_one_to 53) sets ≡ true → (1 ≤ n) × (n ≤ 53) → list_all (is_from_one_to 53) (with_nth_of sets w n) ≡ true
nth_with sets w n all bounds =
    all_set (is_from_one_to 53) sets w (with_number (get_or sets w no_numbers) n) all (set_with 53 (get_or sets w no_numbers) n (all_get (is_from_one_to 53) sets w no_numbers all refl) bounds)

nth_kept : (s : WeekdayPlaces) (w n : ℕ) (from_end : Bool) → AreDays s → (1 ≤ n) × (n ≤ 53) → AreDays (with_nth s w (signed_number from_end n))
nth_kept s w n true at bounds = record { every = at.every; front = at.front; back = nth_with s.back w n at.back bounds }
nth_kept s w n false at bounds = record { every = at.every; front = nth_with s.front w n at.front bounds; back = at.back }

weekday_kept : (s t : WeekdayPlaces) (text : List ℕ) (w : ℕ) → w < 7 → AreDays s → with_weekday s text w ≡ Some t → AreDays t
unfolding with_weekday
weekday_kept s t [] w less at is =
    subst AreDays (same_Some _ t is) (record { every = with_within 0 7 s.every w at.every (omega arith, less); front = at.front; back = at.back })
weekday_kept s t (b ∷ bs) w less at is =
    let found = mapped (with_nth s w) (signed_number_of 2 53 (b ∷ bs)) t is in
    subst AreDays (sym found.2) (nth_kept s w found.0.number found.0.from_end at (place_bounds 2 53 (b ∷ bs) found.0 found.1))

letters_small : (text : List ℕ) (w : ℕ) → listed_weekday text ≡ Some w → w < 7
unfolding listed_weekday
letters_small text w is =
    let found = mapped days_from_monday (weekday_of_letters 2 text) w is in
    omega (arith, days_from_monday-lt found.0, found.2)

day_kept : (s t : WeekdayPlaces) (text : List ℕ) → AreDays s → with_weekday_text s text ≡ Some t → AreDays t
unfolding with_weekday_text
day_kept s t text at is =
    option_and_then_some (with_weekday s (take (length text - 2) text)) (listed_weekday (drop (length text - 2) text)) t is
    (λ w letters given. weekday_kept s t (take (length text - 2) text) w (letters_small (drop (length text - 2) text) w letters) at given)

pub none_days : AreDays no_weekdays
none_days = record { every = refl; front = refl; back = refl }

pub weekdays_within : (text : List ℕ) (days : WeekdayPlaces) → weekdays_of text ≡ Some days → AreDays days
unfolding weekdays_of
weekdays_within text days is = through_keeps with_weekday_text AreDays day_kept no_weekdays days (pieces 44 text) none_days is

-- BYYEARDAY and BYSETPOS
abbrev pub AreYearEnds : YearEnds → Type 0
AreYearEnds ends = (is_from_one_to 366 ends.front ≡ true) × (is_from_one_to 366 ends.back ≡ true)

day_end_kept : (s : YearEnds) (n : ℕ) (from_end : Bool) → AreYearEnds s → (1 ≤ n) × (n ≤ 366) → AreYearEnds (with_signed_day s (signed_number from_end n))
day_end_kept s n true at bounds = (at.0, set_with 366 s.back n at.1 bounds)
day_end_kept s n false at bounds = (set_with 366 s.front n at.0 bounds, at.1)

year_kept : (s t : YearEnds) (text : List ℕ) → AreYearEnds s → with_year_text s text ≡ Some t → AreYearEnds t
unfolding with_year_text
year_kept s t text at is =
    let found = mapped (with_signed_day s) (signed_number_of 3 366 text) t is in
    subst AreYearEnds (sym found.2) (day_end_kept s found.0.number found.0.from_end at (place_bounds 3 366 text found.0 found.1))

pub year_ends_within : (text : List ℕ) (ends : YearEnds) → signed_year_list_of text ≡ Some ends → AreYearEnds ends
unfolding signed_year_list_of
year_ends_within text ends is = through_keeps with_year_text AreYearEnds year_kept no_year_ends ends (pieces 44 text) (refl, refl) is
