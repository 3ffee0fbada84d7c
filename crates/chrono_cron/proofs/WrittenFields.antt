-- The ranges, the names and the items of a field, as they are written one after another.
use Rattle.std.proofs.Common.{◌≡◌, ℕ, zero, suc, ◌+◌, ◌-◌, ◌<◌, ◌≤◌, ◌==◌, Bool, true, false, ◌&&◌, ◌||◌, List, [], ◌∷◌, ◌++◌, drop, if◌then◌else◌, inl, inr, refl, sym, ap, ◌∙◌, arith, append_assoc, eq-eqb, ne_eqb}
use Rattle.std.specs.Prelude.{map, codes, nat_le, ⊤}
use Rattle.std.proofs.lemmas.Bool.{cases_lt, eqb-true, le-leb, lt-leb}
use Rattle.chrono_sets.specs.FiniteSets.{FiniteSet, has}
use Rattle.chrono_cron.specs.declared.text.schedule_writer.DayName.{DayName}
use Rattle.chrono_cron.specs.WrittenTexts.{are_all, put_in_front, name_text, names_from, number_items, one_lists, range_text, ranges_from}
use Rattle.std.proofs.Math.Bool.{and-false}
use Rattle.chrono_text.specs.Lists.{each_behind, list_text}
use Rattle.chrono_text.proofs.ListLemmas.{each_behind-append, join-behind}
use Rattle.chrono_text.specs.Text.{number_text}

-- ranges one behind another, from `low` on and below `end`
abbrev pub AreRanges : ℕ → ℕ → List (ℕ × ℕ) → Type 0
AreRanges low end [] = ⊤
AreRanges low end (range ∷ ranges) = (low ≤ range.0) × (range.0 ≤ range.1) × (range.1 < end) × AreRanges low end ranges

ranges_lower : (low lower end : ℕ) (ranges : List (ℕ × ℕ)) → lower ≤ low → AreRanges low end ranges → AreRanges lower end ranges
ranges_lower low lower end [] le are = are
ranges_lower low lower end (range ∷ ranges) le (from, order, to, others) = (omega (arith, le, from), order, to, ranges_lower low lower end ranges le others)

abbrev joined : ℕ → ℕ × ℕ → List (ℕ × ℕ) → Bool → List (ℕ × ℕ)
joined n range ranges touches = if touches then (n, range.1) ∷ ranges else (n, n) ∷ range ∷ ranges

joined_are : (n end : ℕ) (range : ℕ × ℕ) (ranges : List (ℕ × ℕ)) (touches : Bool) → n < end → AreRanges (n + 1) end (range ∷ ranges) → AreRanges n end (joined n range ranges touches)
joined_are n end range ranges true lt (from, order, to, others) = (omega arith, omega (arith, from, order), to, ranges_lower (n + 1) n end ranges (omega arith) others)
joined_are n end range ranges false lt are = (omega arith, omega arith, lt, ranges_lower (n + 1) n end (range ∷ ranges) (omega arith) are)

in_front_are : (n end : ℕ) (ranges : List (ℕ × ℕ)) → n < end → AreRanges (n + 1) end ranges → AreRanges n end (put_in_front n ranges)
in_front_are n end [] lt are = (omega arith, omega arith, lt, are)
in_front_are n end (range ∷ ranges) lt are = joined_are n end range ranges (range.0 == n + 1) lt are

abbrev with_number : FiniteSet → ℕ → ℕ → Bool → List (ℕ × ℕ)
with_number set count n member = if member then put_in_front n (ranges_from set count (n + 1)) else ranges_from set count (n + 1)

with_number_are : (set : FiniteSet) (count n end : ℕ) (member : Bool) → n < end → AreRanges (n + 1) end (ranges_from set count (n + 1)) → AreRanges n end (with_number set count n member)
with_number_are set count n end true lt are = in_front_are n end (ranges_from set count (n + 1)) lt are
with_number_are set count n end false lt are = ranges_lower (n + 1) n end (ranges_from set count (n + 1)) (omega arith) are

pub ranges_are : (set : FiniteSet) (count n end : ℕ) → n + count ≤ end → AreRanges n end (ranges_from set count n)
unfolding ranges_from
ranges_are set zero n end le = tt
ranges_are set (suc count) n end le = with_number_are set count n end (has set n) (omega (arith, le)) (ranges_are set count (n + 1) end (omega (arith, le)))

-- a number that is no member, and a range as long as can be
one_less : (n end : ℕ) → n < end → end - n ≡ suc (end - (n + 1))
one_less n end lt = omega (arith, lt)

ranges_at : (set : FiniteSet) (n end : ℕ) (member : Bool) → n < end → has set n ≡ member → ranges_from set (end - n) n ≡ with_number set (end - (n + 1)) n member
unfolding ranges_from
ranges_at set n end member lt is = ap (λ count. ranges_from set count n) (one_less n end lt) ∙ ap (with_number set (end - (n + 1)) n) is

pub ranges_past_gap : (set : FiniteSet) (n end : ℕ) → n < end → has set n ≡ false → ranges_from set (end - n) n ≡ ranges_from set (end - (n + 1)) (n + 1)
ranges_past_gap set n end lt lacks = ranges_at set n end false lt lacks

alone : (n end : ℕ) (ranges : List (ℕ × ℕ)) → AreRanges (n + 1 + 1) end ranges → put_in_front n ranges ≡ (n, n) ∷ ranges
alone n end [] are = refl
alone n end (range ∷ ranges) (from, order, to, others) = ap (joined n range ranges) (ne_eqb range.0 (n + 1) (omega (arith, from)))

-- behind the end of a range no range begins at once
no_ranges : (set : FiniteSet) (n end : ℕ) → end - n ≡ 0 → AreRanges (n + 1) end (ranges_from set (end - n) n)
unfolding ranges_from
no_ranges set n end e = rw e tt

none_at_once : (set : FiniteSet) (n end : ℕ) → n ≤ end → (n < end → has set n ≡ false) → AreRanges (n + 1) end (ranges_from set (end - n) n)
none_at_once set n end le gap = elim (cases_lt n end) [
  | inl lt ↦ rw (ranges_past_gap set n end lt (gap lt)) (ranges_are set (end - (n + 1)) (n + 1) end (omega (arith, lt)))
  | inr ge ↦ no_ranges set n end (omega (arith, le, ge))
]

run : (longer : ℕ) (set : FiniteSet) (n end : ℕ) → n + longer < end → ((k : ℕ) → n ≤ k → k ≤ n + longer → has set k ≡ true)
    → (n + longer + 1 < end → has set (n + longer + 1) ≡ false)
    → ranges_from set (end - n) n ≡ (n, n + longer) ∷ ranges_from set (end - (n + longer + 1)) (n + longer + 1)
run zero set n end lt members gap =
    let last : n ≡ n + 0 = omega arith in
    let past : n + 1 ≡ n + 0 + 1 = omega arith in
    ranges_at set n end true (omega (arith, lt)) (members n (omega arith) (omega arith))
    ∙ alone n end (ranges_from set (end - (n + 1)) (n + 1)) (none_at_once set (n + 1) end (omega (arith, lt)) (λ less. rw past (gap (omega (arith, less)))))
    ∙ ap (λ k. (n, k) ∷ ranges_from set (end - (n + 1)) (n + 1)) last
    ∙ ap (λ k. (n, n + 0) ∷ ranges_from set (end - k) k) past
run (suc longer) set n end lt members gap =
    let last : n + 1 + longer ≡ n + suc longer = omega arith in
    let past : n + 1 + longer + 1 ≡ n + suc longer + 1 = omega arith in
    let rest = run longer set (n + 1) end (omega (arith, lt)) (λ k low high. members k (omega (arith, low)) (omega (arith, high))) (λ less. rw past (gap (omega (arith, less)))) in
    ranges_at set n end true (omega (arith, lt)) (members n (omega arith) (omega arith))
    ∙ ap (put_in_front n) rest
    ∙ ap (joined n (n + 1, n + 1 + longer) (ranges_from set (end - (n + 1 + longer + 1)) (n + 1 + longer + 1))) (eq-eqb (n + 1) (n + 1) refl)
    ∙ ap (λ k. (n, k) ∷ ranges_from set (end - (n + 1 + longer + 1)) (n + 1 + longer + 1)) last
    ∙ ap (λ k. (n, n + suc longer) ∷ ranges_from set (end - k) k) past

pub ranges_past_run : (set : FiniteSet) (n gap end : ℕ) → n < gap → gap ≤ end → ((k : ℕ) → n ≤ k → k < gap → has set k ≡ true)
    → (gap < end → has set gap ≡ false) → ranges_from set (end - n) n ≡ (n, gap - 1) ∷ ranges_from set (end - gap) gap
ranges_past_run set n gap end some le members ends =
    let last : n + (gap - 1 - n) ≡ gap - 1 = omega (arith, some) in
    let past : n + (gap - 1 - n) + 1 ≡ gap = omega (arith, some) in
    run (gap - 1 - n) set n end (omega (arith, some, le)) (λ k low high. members k low (omega (arith, high, some))) (λ less. rw past (ends (omega (arith, less, some))))
    ∙ ap (λ k. (n, k) ∷ ranges_from set (end - (n + (gap - 1 - n) + 1)) (n + (gap - 1 - n) + 1)) last
    ∙ ap (λ k. (n, gap - 1) ∷ ranges_from set (end - k) k) past

-- a number that is a name of a day, or none
abbrev named : DayName → FiniteSet → ℕ → ℕ → Bool → List (List ℕ)
named naming set count n member = if member then name_text naming n ∷ names_from naming set count (n + 1) else names_from naming set count (n + 1)

pub names_at : (naming : DayName) (set : FiniteSet) (n end : ℕ) (member : Bool) → n < end → has set n ≡ member
    → names_from naming set (end - n) n ≡ (if member then name_text naming n ∷ names_from naming set (end - (n + 1)) (n + 1) else names_from naming set (end - (n + 1)) (n + 1))
unfolding names_from
names_at naming set n end member lt is = ap (λ count. names_from naming set count n) (one_less n end lt) ∙ ap (named naming set (end - (n + 1)) n) is

-- nothing is left at the end
pub ranges_end : (set : FiniteSet) (n end : ℕ) → end ≤ n → ranges_from set (end - n) n ≡ []
unfolding ranges_from
ranges_end set n end le =
    let none : end - n ≡ 0 = omega (arith, le) in
    ap (λ count. ranges_from set count n) none

pub names_end : (naming : DayName) (set : FiniteSet) (n end : ℕ) → end ≤ n → names_from naming set (end - n) n ≡ []
unfolding names_from
names_end naming set n end le =
    let none : end - n ≡ 0 = omega (arith, le) in
    ap (λ count. names_from naming set count n) none

-- whether all numbers are members, by the first that is none
all_members : (count : ℕ) (set : FiniteSet) (n : ℕ) → ((k : ℕ) → n ≤ k → k < n + count → has set k ≡ true) → are_all set count n ≡ true
unfolding are_all
all_members zero set n members = refl
all_members (suc count) set n members =
    ap (λ b. b && are_all set count (n + 1)) (members n (omega arith) (omega arith))
    ∙ all_members count set (n + 1) (λ k low high. members k (omega (arith, low)) (omega (arith, high)))

not_all_members : (count : ℕ) (set : FiniteSet) (n gap : ℕ) → n ≤ gap → gap < n + count → has set gap ≡ false → are_all set count n ≡ false
unfolding are_all
not_all_members zero set n gap low high lacks = absurd (omega (arith, low, high))
not_all_members (suc count) set n gap low high lacks = elim (cases_lt n gap) [
  | inl lt ↦ ap (λ b. has set n && b) (not_all_members count set (n + 1) gap (omega (arith, lt)) (omega (arith, high)) lacks) ∙ and-false (has set n)
  | inr ge ↦
      let at : n ≡ gap = omega (arith, low, ge) in
      ap (λ k. has set k && are_all set count (n + 1)) at ∙ ap (λ b. b && are_all set count (n + 1)) lacks
]

pub all_by_gap : (set : FiniteSet) (low gap end : ℕ) → low ≤ gap → gap ≤ end → ((k : ℕ) → low ≤ k → k < gap → has set k ≡ true)
    → (gap < end → has set gap ≡ false) → (gap == end) ≡ are_all set (end - low) low
all_by_gap set low gap end from to members ends = elim (cases_lt gap end) [
  | inl lt ↦ ne_eqb gap end (omega (arith, lt)) ∙ sym (not_all_members (end - low) set low gap from (omega (arith, lt, from)) (ends lt))
  | inr ge ↦ eq-eqb gap end (omega (arith, ge, to)) ∙ sym (all_members (end - low) set low (λ k l h. members k l (omega (arith, l, h, ge, to, from))))
]

-- items behind commas, without the first comma and put together
pub without_comma : (items : List (List ℕ)) → drop 1 (each_behind 44 items) ≡ list_text items
without_comma [] = refl
without_comma (item ∷ items) = sym (join-behind 44 item items)

pub item_put : (old new item : List ℕ) (items : List (List ℕ)) → new ≡ old ++ codes "," ++ item → new ++ each_behind 44 items ≡ old ++ each_behind 44 (item ∷ items)
item_put old new item items put = ap (λ text. text ++ each_behind 44 items) put ∙ simp append_assoc refl

pub field_put : (old new items : List ℕ) (list : List (List ℕ)) → new ≡ old ++ drop 1 items → items ≡ each_behind 44 list → new ≡ old ++ list_text list
field_put old new items list put are = put ∙ ap (λ text. old ++ drop 1 text) are ∙ ap (λ text. old ++ text) (without_comma list)

pub first_put : (old new : List ℕ) (items : List (List ℕ)) → old ≡ [] → new ≡ old ++ each_behind 44 items → new ≡ each_behind 44 items
first_put old new items none put = put ∙ ap (λ front. front ++ each_behind 44 items) none

pub items_put : (old new : List ℕ) (list more : List (List ℕ)) → old ≡ each_behind 44 list → new ≡ old ++ each_behind 44 more → new ≡ each_behind 44 (list ++ more)
items_put old new list more are put = put ∙ ap (λ text. text ++ each_behind 44 more) are ∙ sym (each_behind-append 44 list more)

-- the items of a field that lists numbers
abbrev listed : FiniteSet → ℕ → ℕ → Bool → Bool → List (List ℕ)
listed set count low starred all =
    if starred then (if all then codes "*" ∷ [] else (codes "*/" ++ number_text count) ∷ map range_text (ranges_from set count low))
    else map range_text (ranges_from set count low)

pub numbers_unstarred : (starred : Bool) (set : FiniteSet) (count low : ℕ) → starred ≡ false → map range_text (ranges_from set count low) ≡ number_items starred set count low
unfolding number_items
numbers_unstarred starred set count low e = sym (ap (λ b. listed set count low b (are_all set count low)) e)

pub numbers_all : (starred : Bool) (set : FiniteSet) (count low : ℕ) → starred ≡ true → are_all set count low ≡ true → codes "*" ∷ [] ≡ number_items starred set count low
unfolding number_items
numbers_all starred set count low e all = sym (ap (λ b. listed set count low b (are_all set count low)) e ∙ ap (listed set count low true) all)

pub numbers_stepped : (starred : Bool) (set : FiniteSet) (count low : ℕ) → starred ≡ true → are_all set count low ≡ false
    → (codes "*/" ++ number_text count) ∷ map range_text (ranges_from set count low) ≡ number_items starred set count low
unfolding number_items
numbers_stepped starred set count low e some = sym (ap (λ b. listed set count low b (are_all set count low)) e ∙ ap (listed set count low true) some)

-- the ranges list the members, and no other number
pub one_from : (low end k : ℕ) (ranges : List (ℕ × ℕ)) → AreRanges low end ranges → k < low → one_lists ranges k ≡ false
one_from low end k [] are less = refl
one_from low end k (range ∷ ranges) (from, order, to, others) less =
    ap (λ b. (b && nat_le k range.1) || one_lists ranges k) (lt-leb range.0 k (omega (arith, from, less))) ∙ one_from low end k ranges others less

none_behind : (n k : ℕ) (others : Bool) → n < k → ((nat_le n k && nat_le k n) || others) ≡ others
none_behind n k others less = ap (λ b. (nat_le n k && b) || others) (lt-leb k n less) ∙ ap (λ b. b || others) (and-false (nat_le n k))

joined_later : (n k : ℕ) (range : ℕ × ℕ) (ranges : List (ℕ × ℕ)) (touches : Bool) → n < k → (range.0 == n + 1) ≡ touches
    → one_lists (joined n range ranges touches) k ≡ one_lists (range ∷ ranges) k
joined_later n k range ranges true less e =
    let begins = eqb-true range.0 (n + 1) e in
    ap (λ b. (b && nat_le k range.1) || one_lists ranges k) (le-leb n k (omega (arith, less)) ∙ sym (le-leb range.0 k (omega (arith, begins, less))))
joined_later n k range ranges false less e = none_behind n k (one_lists (range ∷ ranges) k) less

later : (n k : ℕ) (ranges : List (ℕ × ℕ)) → n < k → one_lists (put_in_front n ranges) k ≡ one_lists ranges k
later n k [] less = none_behind n k false less
later n k (range ∷ ranges) less = joined_later n k range ranges (range.0 == n + 1) less refl

self_listed : (n last : ℕ) (others : Bool) → n ≤ last → ((nat_le n n && nat_le n last) || others) ≡ true
self_listed n last others le =
    ap (λ b. (b && nat_le n last) || others) (le-leb n n (omega arith)) ∙ ap (λ b. b || others) (le-leb n last le)

joined_first : (n : ℕ) (range : ℕ × ℕ) (ranges : List (ℕ × ℕ)) (touches : Bool) → n ≤ range.1 → one_lists (joined n range ranges touches) n ≡ true
joined_first n range ranges true le = self_listed n range.1 (one_lists ranges n) le
joined_first n range ranges false le = self_listed n n (one_lists (range ∷ ranges) n) (omega arith)

first : (n end : ℕ) (ranges : List (ℕ × ℕ)) → AreRanges (n + 1) end ranges → one_lists (put_in_front n ranges) n ≡ true
first n end [] are = self_listed n n false (omega arith)
first n end (range ∷ ranges) (from, order, to, others) = joined_first n range ranges (range.0 == n + 1) (omega (arith, from, order))

with_number_later : (set : FiniteSet) (count n k : ℕ) (member : Bool) → n < k → one_lists (with_number set count n member) k ≡ one_lists (ranges_from set count (n + 1)) k
with_number_later set count n k true less = later n k (ranges_from set count (n + 1)) less
with_number_later set count n k false less = refl

with_number_first : (set : FiniteSet) (count n : ℕ) (member : Bool) → one_lists (with_number set count n member) n ≡ member
with_number_first set count n true = first n (n + 1 + count) (ranges_from set count (n + 1)) (ranges_are set count (n + 1) (n + 1 + count) (omega arith))
with_number_first set count n false =
    one_from (n + 1) (n + 1 + count) n (ranges_from set count (n + 1)) (ranges_are set count (n + 1) (n + 1 + count) (omega arith)) (omega arith)

pub ranges_list : (set : FiniteSet) (count n k : ℕ) → n ≤ k → k < n + count → one_lists (ranges_from set count n) k ≡ has set k
unfolding ranges_from
ranges_list set zero n k low high = absurd (omega (arith, low, high))
ranges_list set (suc count) n k low high = elim (cases_lt n k) [
  | inl less ↦ with_number_later set count n k (has set n) less ∙ ranges_list set count (n + 1) k (omega (arith, less)) (omega (arith, high))
  | inr ge ↦
      let at : n ≡ k = omega (arith, low, ge) in
      ap (one_lists (with_number set count n (has set n))) (sym at) ∙ with_number_first set count n (has set n) ∙ ap (has set) at
]
