-- Lists of numbers that are written are read back.
use Rattle.std.proofs.Common.{◌≡◌, ℕ, zero, suc, ◌+◌, ◌^◌, ◌<◌, ◌≤◌, ◌==◌, nat_le, nat_lt, Bool, true, false, ◌&&◌, ◌||◌, if◌then◌else◌, List, [], ◌∷◌, ◌++◌, length, Option, Some, None, refl, sym, ap, ◌∙◌, subst, arith}
use Rattle.std.specs.Char.{is_ascii_digit}
use Rattle.std.specs.Fmt.{decimal, sign_text}
use Rattle.std.specs.Option.{option_and_then, option_map}
use Rattle.std.specs.Str.{all_ascii_digits}
use Rattle.std.proofs.lemmas.Bool.{and_from, and_parts, false≢true, le-leb, le-ltb, leb-true, lt-ltb}
use Rattle.std.proofs.lemmas.Fmt.{decimal_nonempty, digits_decimal, length-decimal-le}
use Rattle.std.proofs.lemmas.Option.{same_Some}
use Rattle.chrono_sets.specs.FiniteSets.{FiniteSet, has, is_empty, lies_within, no_numbers, with_number}
use Rattle.chrono_sets.proofs.Members.{has-no_numbers, has-with_number, lies_within-has, same_set}
use Rattle.chrono_text.specs.Numbers.{digits_of, if_within, natural_of}
use Rattle.chrono_rules.specs.NumberLists.{signed_list_of, listed_number, month_list_of, no_signed, no_year_ends, signed_number, signed_number_of, with_month_text, with_signed, with_signed_day, with_signed_text, with_year_text, signed_year_list_of}
use Rattle.chrono_text.specs.Lists.{through, list_text}
use Rattle.chrono_rules.specs.WritableRules.{is_from_one_to}
use Rattle.chrono_rules.specs.WrittenRules.{both_items, item_text, items}
use Rattle.chrono_rules.specs.declared.text.list_writer.Naming.{Naming}
use Rattle.chrono_rules.specs.declared.text.list_writer.Naming.TheVariants.{Number}
use Rattle.chrono_rules.specs.declared.text.number_list.BothEnds.{BothEnds}
use Rattle.chrono_rules.specs.declared.text.year_day_list.YearEnds.{YearEnds}
use Rattle.chrono_sets.proofs.Steps.{passed, taken}
use Rattle.chrono_text.proofs.ListLemmas.{pieces_joined}
use Rattle.chrono_text.proofs.NumberLemmas.{decimal_back}
use Rattle.chrono_rules.proofs.WordBytes.{both_words, items_words, own, words_lack}

-- ---- numbers

digits_back : (most n : ℕ) → n < 2 ^ 64 → length (decimal n) ≤ most → digits_of most (decimal n) ≡ Some n
unfolding digits_of
digits_back most n fits short = ap (λ t. if t then natural_of (decimal n) else None) (le-leb (length (decimal n)) most short) ∙ decimal_back n fits

number_back : (digits most n : ℕ) → n < 2 ^ 64 → 1 ≤ n → n ≤ most → length (decimal n) ≤ digits → listed_number digits most (decimal n) ≡ Some n
unfolding listed_number
number_back digits most n fits some within short =
    ap (option_and_then (if_within 1 most)) (digits_back digits n fits short)
    ∙ ap (λ t. if t then Some n else None) (and_from (nat_le 1 n) (nat_le n most) (le-leb 1 n some) (le-leb n most within))

plain_place : (digits most : ℕ) (text : List ℕ) → all_ascii_digits text ≡ true → 0 < length text → signed_number_of digits most text ≡ option_map (signed_number false) (listed_number digits most text)
unfolding signed_number_of
plain_place digits most [] are some = absurd (omega (arith, some))
plain_place digits most (b ∷ bs) are some =
    let parts = and_parts (is_ascii_digit b) (all_ascii_digits bs) are in
    let low = leb-true 48 b (and_parts (nat_le 48 b) (nat_le b 57) parts.0).0 in
    let minus : (b == 45) ≡ false = grind arith in
    let plus : (b == 43) ≡ false = grind arith in
    rw (minus, plus) refl

pub place_back : (from_end : Bool) (digits most n : ℕ) → n < 2 ^ 64 → 1 ≤ n → n ≤ most → length (decimal n) ≤ digits → signed_number_of digits most (sign_text from_end ++ decimal n) ≡ Some (signed_number from_end n)
unfolding signed_number_of
place_back true digits most n fits some within short = ap (option_map (signed_number true)) (number_back digits most n fits some within short)
place_back false digits most n fits some within short =
    plain_place digits most (decimal n) (digits_decimal own n fits) (decimal_nonempty n fits) ∙ ap (option_map (signed_number false)) (number_back digits most n fits some within short)

-- ---- the members of a set below a number, one after another

-- the members of s are those of t below n
abbrev IsBelow : FiniteSet → FiniteSet → ℕ → Type 0
IsBelow s t n = (k : ℕ) → has s k ≡ (has t k && nat_lt k n)

below_with : (s t : FiniteSet) (n : ℕ) → IsBelow s t n → has t n ≡ true → IsBelow (with_number s n) t (n + 1)
below_with s t n below is k = has-with_number s n k ∙ ap (λ b. b || (k == n)) (below k) ∙ taken (has t) n k is

below_without : (s t : FiniteSet) (n : ℕ) → IsBelow s t n → has t n ≡ false → IsBelow s t (n + 1)
below_without s t n below is k = below k ∙ passed (has t) n k is

none_below : (b : Bool) (k n : ℕ) → (b ≡ true → n ≤ k) → false ≡ (b && nat_lt k n)
none_below false k n from = refl
none_below true k n from = sym (le-ltb k n (from refl))

-- no member lies below the first that a set may have
below_first : (first end : ℕ) (t : FiniteSet) → lies_within first end t ≡ true → IsBelow no_numbers t first
below_first first end t within k = has-no_numbers k ∙ none_below (has t k) k first (λ is. (lies_within-has first end t within k is).0)

all_below : (b : Bool) (k n : ℕ) → (b ≡ true → k < n) → (b && nat_lt k n) ≡ b
all_below false k n to = refl
all_below true k n to = lt-ltb k n (to refl)

-- those below the number past the last are all
below_end : (first end : ℕ) (s t : FiniteSet) → lies_within first end t ≡ true → IsBelow s t end → s ≡ t
below_end first end s t within below = same_set s t (λ k. below k ∙ all_below (has t k) k end (λ is. (lies_within-has first end t within k is).1))

-- ---- what is read of a list that is written

pub through_append : {S : Type 0} (step : S → List ℕ → Option S) (s : S) (xs ys : List (List ℕ)) → through step s (xs ++ ys) ≡ option_and_then (λ t. through step t ys) (through step s xs)
through_append step s [] ys = refl
through_append {S} step s (x ∷ xs) ys = elim (step s x) as (λ o. option_and_then (λ t. through step t (xs ++ ys)) o ≡ option_and_then (λ t. through step t ys) (option_and_then (λ t. through step t xs) o)) [
  | None ↦ refl
  | Some t ↦ through_append step t xs ys
]

-- ---- sets of numbers

one_step : {S : Type 0} (step : S → List ℕ → Option S) (state : FiniteSet → S) (item : List ℕ) (rest : List (List ℕ)) (s t : FiniteSet) (n : ℕ) (b : Bool) → has t n ≡ b → IsBelow s t n
    → step (state s) item ≡ Some (state (with_number s n))
    → (u : FiniteSet) × (through step (state s) ((if b then item ∷ [] else []) ++ rest) ≡ through step (state u) rest) × IsBelow u t (n + 1)
one_step step state item rest s t n true is below made = (with_number s n, ap (option_and_then (λ t. through step t rest)) made, below_with s t n below is)
one_step step state item rest s t n false is below made = (s, refl, below_without s t n below is)

-- the items of a set's members give a state with them
through_items : {S : Type 0} (step : S → List ℕ → Option S) (state : FiniteSet → S) (naming : Naming) (from_end : Bool) (t : FiniteSet) (count n : ℕ) (s : FiniteSet) → IsBelow s t n
    → ((u : FiniteSet) (k : ℕ) → n ≤ k → k < n + count → step (state u) (item_text naming from_end k) ≡ Some (state (with_number u k)))
    → (u : FiniteSet) × (through step (state s) (items t naming from_end count n) ≡ Some (state u)) × IsBelow u t (n + count)
unfolding items
through_items step state naming from_end t zero n s below steps =
    let same : n ≡ n + 0 = omega arith in
    (s, refl, subst (IsBelow s t) same below)
through_items step state naming from_end t (suc count) n s below steps =
    let more : (n + 1) + count ≡ n + suc count = omega arith in
    let one = one_step step state (item_text naming from_end n) (items t naming from_end count (n + 1)) s t n (has t n) refl below (steps s n (omega arith) (omega arith)) in
    let rest = through_items step state naming from_end t count (n + 1) one.0 one.2 (λ u k from under. steps u k (omega (arith, from)) (omega (arith, under))) in
    (rest.0, one.1 ∙ rest.1, subst (IsBelow rest.0 t) more rest.2)

-- a set of numbers from the first on, below the end
pub set_back : {S : Type 0} (step : S → List ℕ → Option S) (state : FiniteSet → S) (naming : Naming) (from_end : Bool) (first count : ℕ) (t : FiniteSet) → lies_within first (first + count) t ≡ true
    → ((u : FiniteSet) (k : ℕ) → first ≤ k → k < first + count → step (state u) (item_text naming from_end k) ≡ Some (state (with_number u k)))
    → through step (state no_numbers) (items t naming from_end count first) ≡ Some (state t)
set_back step state naming from_end first count t within steps =
    let read = through_items step state naming from_end t count first no_numbers (below_first first (first + count) t within) steps in
    read.1 ∙ ap (λ u. Some (state u)) (below_end first (first + count) read.0 t within read.2)

-- a set of numbers from 1 to `most`
pub from_one_back : {S : Type 0} (step : S → List ℕ → Option S) (state : FiniteSet → S) (naming : Naming) (from_end : Bool) (most : ℕ) (t : FiniteSet) → is_from_one_to most t ≡ true
    → ((u : FiniteSet) (k : ℕ) → 1 ≤ k → k < 1 + most → step (state u) (item_text naming from_end k) ≡ Some (state (with_number u k)))
    → through step (state no_numbers) (items t naming from_end most 1) ≡ Some (state t)
from_one_back step state naming from_end most t within steps =
    let turned : most + 1 ≡ 1 + most = omega arith in
    set_back step state naming from_end 1 most t (subst (λ end. lies_within 1 end t ≡ true) turned within) steps

pub some_of : {S : Type 0} (step : S → List ℕ → Option S) (s t : S) (texts : List (List ℕ)) → through step s texts ≡ Some t → (s ≡ t → ⊥) → texts ≡ [] → ⊥
some_of step s t texts is differ none = differ (same_Some s t (sym (ap (through step s) none) ∙ is))

-- BYMONTH
month_step : (u : FiniteSet) (k : ℕ) → 1 ≤ k → k < 1 + 12 → with_month_text u (item_text Number false k) ≡ Some (with_number u k)
unfolding with_month_text item_text
month_step u k some within =
    ap (option_map (with_number u)) (number_back 2 12 k (omega (arith, within)) some (omega (arith, within)) (length-decimal-le 2 k (omega arith) (omega (arith, within)) (omega (arith, within))))

pub months_back : (t : FiniteSet) → is_from_one_to 12 t ≡ true → is_empty t ≡ false → month_list_of (list_text (items t Number false 12 1)) ≡ Some t
unfolding month_list_of
months_back t is some =
    let texts = items t Number false 12 1 in
    let made = from_one_back with_month_text (λ u. u) Number false 12 t is month_step in
    let differ : no_numbers ≡ t → ⊥ = λ e. false≢true (sym some ∙ sym (ap (λ (s : FiniteSet). is_empty s) e)) in
    ap (through with_month_text no_numbers) (pieces_joined 44 texts (some_of with_month_text no_numbers t texts made differ) (words_lack 44 texts refl (items_words t Number false 12 1 (omega arith)))) ∙ made

-- BYMONTHDAY and BYWEEKNO
abbrev ends_with : FiniteSet → FiniteSet → BothEnds
ends_with front back = record { front = front; back = back }

front_step : (most : ℕ) (back u : FiniteSet) (k : ℕ) → most < 64 → 1 ≤ k → k < 1 + most → with_signed_text 2 most (ends_with u back) (item_text Number false k) ≡ Some (ends_with (with_number u k) back)
unfolding with_signed_text item_text
front_step most back u k small some within =
    ap (option_map (with_signed (ends_with u back))) (place_back false 2 most k (omega (arith, small, within)) some (omega (arith, within)) (length-decimal-le 2 k (omega arith) (omega (arith, small, within)) (omega (arith, small, within))))

back_step : (most : ℕ) (front u : FiniteSet) (k : ℕ) → most < 64 → 1 ≤ k → k < 1 + most → with_signed_text 2 most (ends_with front u) (item_text Number true k) ≡ Some (ends_with front (with_number u k))
unfolding with_signed_text item_text
back_step most front u k small some within =
    ap (option_map (with_signed (ends_with front u))) (place_back true 2 most k (omega (arith, small, within)) some (omega (arith, within)) (length-decimal-le 2 k (omega arith) (omega (arith, small, within)) (omega (arith, small, within))))

pub ends_back : (most : ℕ) (front back : FiniteSet) → most < 64 → is_from_one_to most front ≡ true → is_from_one_to most back ≡ true → (is_empty front && is_empty back) ≡ false
    → signed_list_of 2 most (list_text (both_items front back most)) ≡ Some (ends_with front back)
unfolding signed_list_of
ends_back most front back small is also some =
    let step = with_signed_text 2 most in
    let xs = items front Number false most 1 in
    let ys = items back Number true most 1 in
    let first = from_one_back step (λ u. ends_with u no_numbers) Number false most front is (λ u k from within. front_step most no_numbers u k small from within) in
    let second = from_one_back step (λ u. ends_with front u) Number true most back also (λ u k from within. back_step most front u k small from within) in
    let made = through_append step no_signed xs ys ∙ ap (option_and_then (λ t. through step t ys)) first ∙ second in
    let differ : no_signed ≡ ends_with front back → ⊥ = λ e. false≢true (sym some ∙ sym (ap (λ (t : BothEnds). is_empty t.front && is_empty t.back) e)) in
    let lack = words_lack 44 (xs ++ ys) refl (both_words front back most (omega (arith, small))) in
    ap (through step no_signed) (pieces_joined 44 (xs ++ ys) (some_of step no_signed (ends_with front back) (xs ++ ys) made differ) lack) ∙ made

-- BYYEARDAY and BYSETPOS
abbrev year_ends_with : FiniteSet → FiniteSet → YearEnds
year_ends_with front back = record { front = front; back = back }

day_short : (k : ℕ) → k < 367 → length (decimal k) ≤ 3
day_short k within = length-decimal-le 3 k (omega arith) (omega (arith, within)) (omega (arith, within))

front_day : (u back : FiniteSet) (k : ℕ) → 1 ≤ k → k < 1 + 366 → with_year_text (year_ends_with u back) (item_text Number false k) ≡ Some (year_ends_with (with_number u k) back)
unfolding with_year_text item_text
front_day u back k some within =
    ap (option_map (with_signed_day (year_ends_with u back))) (place_back false 3 366 k (omega (arith, within)) some (omega (arith, within)) (day_short k (omega (arith, within))))

back_day : (front u : FiniteSet) (k : ℕ) → 1 ≤ k → k < 1 + 366 → with_year_text (year_ends_with front u) (item_text Number true k) ≡ Some (year_ends_with front (with_number u k))
unfolding with_year_text item_text
back_day front u k some within =
    ap (option_map (with_signed_day (year_ends_with front u))) (place_back true 3 366 k (omega (arith, within)) some (omega (arith, within)) (day_short k (omega (arith, within))))

pub year_ends_back : (front back : FiniteSet) → is_from_one_to 366 front ≡ true → is_from_one_to 366 back ≡ true → (is_empty front && is_empty back) ≡ false
    → signed_year_list_of (list_text (both_items front back 366)) ≡ Some (year_ends_with front back)
unfolding signed_year_list_of
year_ends_back front back is also some =
    let step = with_year_text in
    let xs = items front Number false 366 1 in
    let ys = items back Number true 366 1 in
    let first = from_one_back step (λ u. year_ends_with u no_numbers) Number false 366 front is (λ u k from within. front_day u no_numbers k from within) in
    let second = from_one_back step (λ u. year_ends_with front u) Number true 366 back also (λ u k from within. back_day front u k from within) in
    let made = through_append step no_year_ends xs ys ∙ ap (option_and_then (λ t. through step t ys)) first ∙ second in
    let differ : no_year_ends ≡ year_ends_with front back → ⊥ = λ e. false≢true (sym some ∙ sym (ap (λ (t : YearEnds). is_empty t.front && is_empty t.back) e)) in
    let lack = words_lack 44 (xs ++ ys) refl (both_words front back 366 (omega arith)) in
    ap (through step no_year_ends) (pieces_joined 44 (xs ++ ys) (some_of step no_year_ends (year_ends_with front back) (xs ++ ys) made differ) lack) ∙ made
