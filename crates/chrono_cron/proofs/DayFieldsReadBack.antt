-- The two fields of days that are written are read back.
use Rattle.std.proofs.Common.{◌≡◌, ℕ, zero, suc, ◌+◌, ◌-◌, ◌%◌, ◌<◌, ◌≤◌, ◌==◌, Bool, true, false, not, ◌&&◌, ◌||◌, cond, if◌then◌else◌, List, [], ◌∷◌, ◌++◌, Option, Some, None, inl, inr, refl, sym, ap, ap₂, ◌∙◌, arith, eq-eqb, ne_eqb, append-nil, ◌≢◌}
use Rattle.std.specs.Prelude.{◌⊎◌, map, codes, is_some, nat_le}
use Rattle.std.specs.List.{filter, list_all, list_any}
use Rattle.std.proofs.lemmas.Bool.{agree_below, agree_below_at, and_parts, cases_lt, eqb-true, false≢true, le-leb, lt-leb}
use Rattle.std.proofs.lemmas.List.Folds.{list_any-append}
use Rattle.std.proofs.lemmas.List.Elements.{filter-append}
use Rattle.chrono_sets.specs.Steps.{is_by_steps}
use Rattle.chrono_sets.specs.FiniteSets.{FiniteSet, has}
use Rattle.chrono_cron.specs.declared.text.number_names.Names.{Names}
use Rattle.chrono_cron.specs.declared.text.schedule_writer.DayName.{DayName}
use Rattle.chrono_cron.specs.FieldTexts.{item_lists, items_list}
use Rattle.chrono_cron.specs.ScheduleTexts.{is_number}
use Rattle.chrono_cron.specs.WritableSchedules.{LieBetween}
use Rattle.chrono_cron.specs.WrittenTexts.{are_all, name_text, names_from, number_items, range_text, ranges_from}
use Rattle.chrono_cron.proofs.FieldsReadBack.{StarReads, are_read, item_first, lacks_below, lacks_past, one_lists-has, pass_all, ranges_pass, ranges_read}
use Rattle.chrono_cron.proofs.WrittenFields.{numbers_all, numbers_stepped, numbers_unstarred, ranges_are}
use Rattle.std.proofs.Math.Bool.{or-true}
use Rattle.std.proofs.Math.Nat.{mod-eq_of_lt}
use Rattle.chrono_text.specs.Text.{number_text}

-- ---- names of days, as they are written

with_name : (test : List ℕ → Bool) (naming : DayName) (set : FiniteSet) (count n : ℕ) (member : Bool) → test (name_text naming n) ≡ true → list_all test (names_from naming set count (n + 1)) ≡ true
    → list_all test (if member then name_text naming n ∷ names_from naming set count (n + 1) else names_from naming set count (n + 1)) ≡ true
with_name test naming set count n true is are = ap₂ (λ a b. a && b) is are
with_name test naming set count n false is are = are

pub names_pass : (test : List ℕ → Bool) (naming : DayName) (set : FiniteSet) (count n : ℕ) → ((k : ℕ) → n ≤ k → k < n + count → test (name_text naming k) ≡ true) → list_all test (names_from naming set count n) ≡ true
unfolding names_from
names_pass test naming set zero n pass = refl
names_pass test naming set (suc count) n pass =
    with_name test naming set count n (has set n) (pass n (omega arith) (omega arith)) (names_pass test naming set count (n + 1) (λ k from lt. pass k (omega (arith, from)) (omega (arith, lt))))

-- a text has no number by a kind of name
abbrev pub lacks : (List ℕ → Option ℕ) → List ℕ → Bool
lacks number item = not (is_some (number item))

abbrev has_number : (List ℕ → Option ℕ) → ℕ → List ℕ → Bool
has_number number k item = is_number k (number item)

abbrev any_of : (List ℕ → Option ℕ) → DayName → FiniteSet → ℕ → ℕ → ℕ → Bool → Bool
any_of number naming set count n k member =
    list_any (has_number number k) (if member then name_text naming n ∷ names_from naming set count (n + 1) else names_from naming set count (n + 1))

-- a name is read as its number
abbrev pub Reads : (List ℕ → Option ℕ) → DayName → ℕ → ℕ → Type 0
Reads number naming low end = (k : ℕ) → low ≤ k → k < end → number (name_text naming k) ≡ Some k

other_number : (number : List ℕ → Option ℕ) (naming : DayName) (set : FiniteSet) (count n k : ℕ) (member : Bool) → number (name_text naming n) ≡ Some n → (k == n) ≡ false
    → any_of number naming set count n k member ≡ list_any (has_number number k) (names_from naming set count (n + 1))
other_number number naming set count n k true is other =
    ap (λ o. is_number k o || list_any (has_number number k) (names_from naming set count (n + 1))) is
    ∙ ap (λ b. b || list_any (has_number number k) (names_from naming set count (n + 1))) other
other_number number naming set count n k false is other = refl

same_number : (number : List ℕ → Option ℕ) (naming : DayName) (set : FiniteSet) (count n : ℕ) (member : Bool) → number (name_text naming n) ≡ Some n
    → list_any (has_number number n) (names_from naming set count (n + 1)) ≡ false → any_of number naming set count n n member ≡ member
same_number number naming set count n true is none =
    ap (λ o. is_number n o || list_any (has_number number n) (names_from naming set count (n + 1))) is
    ∙ ap (λ b. b || list_any (has_number number n) (names_from naming set count (n + 1))) (eq-eqb n n refl)
same_number number naming set count n false is none = none

names_other : (number : List ℕ → Option ℕ) (naming : DayName) (set : FiniteSet) (count n k : ℕ) → Reads number naming n (n + count) → (k < n) ⊎ (n + count ≤ k)
    → list_any (has_number number k) (names_from naming set count n) ≡ false
unfolding names_from
names_other number naming set zero n k reads out = refl
names_other number naming set (suc count) n k reads out =
    let further : (k < n + 1) ⊎ (n + 1 + count ≤ k) = elim out [ inl less ↦ inl (omega (arith, less)) | inr more ↦ inr (omega (arith, more)) ] in
    other_number number naming set count n k (has set n) (reads n (omega arith) (omega arith))
    (ne_eqb k n (elim out [ inl less ↦ omega (arith, less) | inr more ↦ omega (arith, more) ]))
    ∙ names_other number naming set count (n + 1) k (λ j from lt. reads j (omega (arith, from)) (omega (arith, lt))) further

names_inside : (number : List ℕ → Option ℕ) (naming : DayName) (set : FiniteSet) (count n k : ℕ) → Reads number naming n (n + count) → n ≤ k → k < n + count
    → list_any (has_number number k) (names_from naming set count n) ≡ has set k
unfolding names_from
names_inside number naming set zero n k reads from to = absurd (omega (arith, from, to))
names_inside number naming set (suc count) n k reads from to = elim (cases_lt n k) [
  | inl less ↦
      other_number number naming set count n k (has set n) (reads n (omega arith) (omega arith)) (ne_eqb k n (omega (arith, less)))
      ∙ names_inside number naming set count (n + 1) k (λ j from lt. reads j (omega (arith, from)) (omega (arith, lt))) (omega (arith, less)) (omega (arith, to))
  | inr ge ↦
      let at : n ≡ k = omega (arith, from, ge) in
      ap (λ j. any_of number naming set count n j (has set n)) (sym at)
      ∙ same_number number naming set count n (has set n) (reads n (omega arith) (omega arith)) (names_other number naming set count (n + 1) n (λ j from lt. reads j (omega (arith, from)) (omega (arith, lt))) (inl (omega arith)))
      ∙ ap (has set) at
]

pub names_any : (number : List ℕ → Option ℕ) (naming : DayName) (set : FiniteSet) (count n k : ℕ) → Reads number naming n (n + count) → LieBetween set n (n + count)
    → list_any (λ item. is_number k (number item)) (names_from naming set count n) ≡ has set k
names_any number naming set count n k reads lie = elim (cases_lt k n) [
  | inl less ↦ names_other number naming set count n k reads (inl less) ∙ sym (lacks_below set n (n + count) k lie less)
  | inr from ↦ elim (cases_lt k (n + count)) [
    | inl inside ↦ names_inside number naming set count n k reads from inside
    | inr past ↦ names_other number naming set count n k reads (inr past) ∙ sym (lacks_past set n (n + count) k lie past)
  ]
]

-- ---- tests of items

pub filter_all : (p : List ℕ → Bool) (items : List (List ℕ)) → list_all p items ≡ true → filter p items ≡ items
filter_all p [] are = refl
filter_all p (item ∷ items) are =
    let parts = and_parts (p item) (list_all p items) are in
    ap (λ b. cond b (item ∷ filter p items) (filter p items)) parts.0 ∙ ap (λ others. item ∷ others) (filter_all p items parts.1)

pub filter_none : (p : List ℕ → Bool) (items : List (List ℕ)) → list_all p items ≡ true → filter (λ item. not (p item)) items ≡ []
filter_none p [] are = refl
filter_none p (item ∷ items) are =
    let parts = and_parts (p item) (list_all p items) are in
    ap (λ b. cond (not b) (item ∷ filter (λ i. not (p i)) items) (filter (λ i. not (p i)) items)) parts.0 ∙ filter_none p items parts.1

no_number : (k : ℕ) (number : Option ℕ) → not (is_some number) ≡ true → is_number k number ≡ false
no_number k None is = refl
no_number k (Some n) is = absurd (false≢true is)

pub none_of : (number : List ℕ → Option ℕ) (items : List (List ℕ)) (k : ℕ) → list_all (λ item. not (is_some (number item))) items ≡ true → list_any (λ item. is_number k (number item)) items ≡ false
none_of number [] k are = refl
none_of number (item ∷ items) k are =
    let parts = and_parts (not (is_some (number item))) (list_all (λ i. not (is_some (number i))) items) are in
    ap₂ (λ a b. a || b) (no_number k (number item) parts.0) (none_of number items k parts.1)

-- ---- the items that list numbers, by cases of whether they begin with `*` and whether that lists all

numbers_pass-by : (test : List ℕ → Bool) (set : FiniteSet) (count low : ℕ) (starred all : Bool) → starred ≡ starred → test (codes "*") ≡ true → test (codes "*/" ++ number_text count) ≡ true
    → list_all test (map range_text (ranges_from set count low)) ≡ true
    → list_all test (if starred then (if all then codes "*" ∷ [] else (codes "*/" ++ number_text count) ∷ map range_text (ranges_from set count low)) else map range_text (ranges_from set count low)) ≡ true
numbers_pass-by test set count low true true same star stepped ranges = ap (λ b. b && true) star
numbers_pass-by test set count low true false same star stepped ranges = ap₂ (λ a b. a && b) stepped ranges
numbers_pass-by test set count low false all same star stepped ranges = ranges

pub numbers_pass : (test : List ℕ → Bool) (set : FiniteSet) (count low : ℕ) (starred : Bool) → test (codes "*") ≡ true → test (codes "*/" ++ number_text count) ≡ true
    → pass_all (λ r. test (range_text r)) low (low + count) ≡ true → list_all test (number_items starred set count low) ≡ true
unfolding number_items
numbers_pass test set count low starred star stepped pass =
    numbers_pass-by test set count low starred (are_all set count low) refl star stepped
    (ranges_pass test low low (low + count) (ranges_from set count low) pass (omega arith) (ranges_are set count low (low + count) (omega arith)))

-- a step past the end of a field lists its first number alone
abbrev pub StepReads : Names → ℕ → ℕ → ℕ → Type 0
StepReads names low high count = (k : ℕ) → item_lists names low high (codes "*/" ++ number_text count) k ≡ Some (is_by_steps low high count k)

no_step : (low high count k : ℕ) → k ≢ low → (k ≤ high → k < low + count) → is_by_steps low high count k ≡ false
no_step low high count k other less = elim (cases_lt k low) [
  | inl before ↦ ap (λ b. b && (nat_le k high && ((k - low) % count == 0))) (lt-leb low k before)
  | inr from ↦ elim (cases_lt high k) [
    | inl past ↦ ap (λ b. nat_le low k && (b && ((k - low) % count == 0))) (lt-leb k high past) ∙ ap (λ b. b && false) (le-leb low k from)
    | inr to ↦
        let rest : (k - low) % count ≡ k - low = mod-eq_of_lt {n = k - low} {m = count} (omega (arith, from, less to)) in
        ap₂ (λ a b. a && (b && ((k - low) % count == 0))) (le-leb low k from) (le-leb k high to)
        ∙ ap (λ r. r == 0) rest ∙ ne_eqb (k - low) 0 (omega (arith, from, other))
  ]
]

stepped_has-by : (set : FiniteSet) (low high count k : ℕ) (member : Bool) → has set k ≡ member → has set low ≡ true → (k ≤ high → k < low + count) → (is_by_steps low high count k || member) ≡ member
stepped_has-by set low high count k true is first less = or-true (is_by_steps low high count k)
stepped_has-by set low high count k false is first less =
    ap (λ b. b || false) (no_step low high count k (λ at. false≢true (sym is ∙ ap (has set) at ∙ first)) less)

pub stepped_has : (set : FiniteSet) (low high count k : ℕ) → has set low ≡ true → (k ≤ high → k < low + count) → (is_by_steps low high count k || has set k) ≡ has set k
stepped_has set low high count k first less = stepped_has-by set low high count k (has set k) refl first less

ranges_listed : (names : Names) (set : FiniteSet) (low count high : ℕ) → are_read names low high (low + count) ≡ true → LieBetween set low (low + count) → (k : ℕ)
    → items_list names low high (map range_text (ranges_from set count low)) k ≡ Some (has set k)
ranges_listed names set low count high read lie k =
    ranges_read names low high low (low + count) (ranges_from set count low) k read (omega arith) (ranges_are set count low (low + count) (omega arith))
    ∙ ap Some (one_lists-has set low count k lie)

-- what the items list that list numbers
abbrev pub numbers_list : FiniteSet → ℕ → ℕ → ℕ → ℕ → Bool → Bool → Bool
numbers_list set low count high k starred all =
    if starred then (if all then is_by_steps low high 1 k || false else is_by_steps low high count k || has set k) else has set k

pub numbers_listed : (names : Names) (set : FiniteSet) (low count high : ℕ) (starred starts all : Bool) → starts ≡ starred → are_all set count low ≡ all → are_read names low high (low + count) ≡ true
    → StarReads names low high → StepReads names low high count → LieBetween set low (low + count) → (k : ℕ)
    → items_list names low high (number_items starts set count low) k ≡ Some (numbers_list set low count high k starred all)
numbers_listed names set low count high true starts true s a read star step lie k =
    sym (ap (λ items. items_list names low high items k) (numbers_all starts set count low s a)) ∙ item_first names low high (codes "*") [] k (is_by_steps low high 1 k) false (star k) refl
numbers_listed names set low count high true starts false s a read star step lie k =
    sym (ap (λ items. items_list names low high items k) (numbers_stepped starts set count low s a))
    ∙ item_first names low high (codes "*/" ++ number_text count) (map range_text (ranges_from set count low)) k (is_by_steps low high count k) (has set k) (step k)
    (ranges_listed names set low count high read lie k)
numbers_listed names set low count high false starts all s a read star step lie k =
    sym (ap (λ items. items_list names low high items k) (numbers_unstarred starts set count low s)) ∙ ranges_listed names set low count high read lie k

-- ---- what holds of all names, by a test that computes

abbrev pub pass_from : (ℕ → Bool) → ℕ → ℕ → Bool
pass_from test low end = agree_below (λ k. not (nat_le low k) || test k) (λ k. true) end

pass_at : (test : ℕ → Bool) (low end k : ℕ) → pass_from test low end ≡ true → low ≤ k → k < end → test k ≡ true
pass_at test low end k pass from to =
    sym (ap (λ t. not t || test k) (le-leb low k from)) ∙ agree_below_at (λ j. not (nat_le low j) || test j) (λ j. true) end k pass to

pub names_tested : (test : List ℕ → Bool) (naming : DayName) (set : FiniteSet) (count n : ℕ) → pass_from (λ k. test (name_text naming k)) n (n + count) ≡ true → list_all test (names_from naming set count n) ≡ true
names_tested test naming set count n pass = names_pass test naming set count n (λ k from to. pass_at (λ j. test (name_text naming j)) n (n + count) k pass from to)

pub number_is : (k : ℕ) (number : Option ℕ) → is_number k number ≡ true → number ≡ Some k
number_is k None is = absurd (false≢true is)
number_is k (Some n) is = ap Some (sym (eqb-true k n is))

pub names_read : (number : List ℕ → Option ℕ) (naming : DayName) (low end : ℕ) → pass_from (λ k. is_number k (number (name_text naming k))) low end ≡ true → Reads number naming low end
names_read number naming low end pass k from to = number_is k (number (name_text naming k)) (pass_at (λ j. is_number j (number (name_text naming j))) low end k pass from to)

-- ---- parts of a list

pub any_append : (p : List ℕ → Bool) (xs ys : List (List ℕ)) (a b : Bool) → list_any p xs ≡ a → list_any p ys ≡ b → list_any p (xs ++ ys) ≡ (a || b)
any_append p xs ys a b x y = list_any-append p xs ys ∙ ap₂ (λ x y. x || y) x y

pub filter_append : (p : List ℕ → Bool) (xs ys : List (List ℕ)) → list_all (λ item. not (p item)) xs ≡ true → list_all p ys ≡ true → filter (λ item. not (p item)) (xs ++ ys) ≡ xs
filter_append p xs ys others are =
    filter-append (λ item. not (p item)) xs ys ∙ ap₂ (λ a b. a ++ b) (filter_all (λ item. not (p item)) xs others) (filter_none p ys are) ∙ append-nil xs
