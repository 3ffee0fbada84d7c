-- Items that are written are read back: numbers in ranges, and `*` with or without steps.
use Rattle.std.proofs.Common.{◌≡◌, ℕ, zero, suc, ◌+◌, ◌-◌, ◌%◌, ◌<◌, ◌≤◌, ◌==◌, Bool, true, false, not, ◌&&◌, ◌||◌, List, [], ◌∷◌, ◌++◌, length, Option, Some, None, inl, inr, refl, sym, ap, ap₂, ◌∙◌, arith, eq-eqb}
use Rattle.std.specs.Prelude.{map, codes, nat_le}
use Rattle.std.specs.List.{list_all, list_any, position_or_len, slice_split}
use Rattle.std.specs.Option.{option_and_then, option_map}
use Rattle.std.proofs.lemmas.Bool.{agree_below, agree_below_at, and_parts, cases_lt, eqb-true, false_from_ne_true, false≢true, le-leb, le-ltb, lt-leb, not-true}
use Rattle.std.proofs.lemmas.List.Folds.{list_any-append}
use Rattle.chrono_text.specs.Numbers.{digits_of, natural_of}
use Rattle.chrono_sets.specs.Steps.{is_by_steps}
use Rattle.chrono_sets.specs.FiniteSets.{FiniteSet, has}
use Rattle.chrono_cron.specs.declared.text.number_names.Names.{Names}
use Rattle.chrono_cron.specs.declared.text.number_names.Names.TheVariants.{Numbers, Months}
use Rattle.chrono_datetime.specs.Names.{month_of_letters, weekday_of_letters}
use Rattle.chrono_cron.specs.FieldTexts.{field_lists, item_lists, items_list, number_between, number_of_name, onto, range_of, item_span, spelled_number, step_of}
use Rattle.chrono_cron.specs.ScheduleTexts.{AreListed}
use Rattle.chrono_cron.specs.WritableSchedules.{LieBetween, Member}
use Rattle.chrono_cron.specs.WrittenTexts.{are_all, number_items, one_lists, plain_text, range_text, ranges_from}
use Rattle.chrono_cron.proofs.FieldTexts.{item_plain}
use Rattle.chrono_cron.proofs.WrittenFields.{AreRanges, numbers_all, numbers_unstarred, one_from, ranges_are, ranges_list}
use Rattle.std.proofs.Math.Bool.{and-false, and-true}
use Rattle.chrono_text.specs.Lists.{is_blank, is_some_text, list_text}
use Rattle.chrono_text.proofs.ListLemmas.{lacks, pieces_joined, weaker}

-- ---- texts cut where they were joined

-- an item: some text, with neither a comma nor a blank
abbrev pub is_item : List ℕ → Bool
is_item text = is_some_text text && (lacks 44 text && not (list_any is_blank text))

lacks_comma : (item : List ℕ) → is_item item ≡ true → lacks 44 item ≡ true
lacks_comma item is =
    let parts = and_parts (is_some_text item) (lacks 44 item && not (list_any is_blank item)) is in
    (and_parts (lacks 44 item) (not (list_any is_blank item)) parts.1).0

pub lacks_blank : (item : List ℕ) → is_item item ≡ true → list_any is_blank item ≡ false
lacks_blank item is =
    let parts = and_parts (is_some_text item) (lacks 44 item && not (list_any is_blank item)) is in
    not-true (list_any is_blank item) (and_parts (lacks 44 item) (not (list_any is_blank item)) parts.1).1

-- the items of a field that is written are those that were joined
pub items_back : (item : List ℕ) (items : List (List ℕ)) → list_all is_item (item ∷ items) ≡ true → slice_split (λ x. x == 44) (list_text (item ∷ items)) ≡ item ∷ items
items_back item items are =
    pieces_joined 44 (item ∷ items) (λ none. let size = ap length none in omega (arith, size)) (weaker is_item (lacks 44) (item ∷ items) lacks_comma are)

-- ---- ranges

abbrev is_span : ℕ → ℕ → Option (ℕ × ℕ) → Bool
is_span a b None = false
is_span a b (Some span) = (span.0 == a) && (span.1 == b)

span_is : (a b : ℕ) (span : Option (ℕ × ℕ)) → is_span a b span ≡ true → span ≡ Some (a, b)
span_is a b None e = absurd (false≢true e)
span_is a b (Some span) e =
    let parts = and_parts (span.0 == a) (span.1 == b) e in
    ap₂ (λ x y. Some (x, y)) (eqb-true span.0 a parts.0) (eqb-true span.1 b parts.1)

-- a range is an item without steps, and its span is its own
abbrev pub is_read : Names → ℕ → ℕ → ℕ × ℕ → Bool
is_read names low high range =
    is_item (range_text range) && ((position_or_len (λ x. x == 47) (range_text range) == length (range_text range)) && is_span range.0 range.1 (item_span names low high (range_text range)))

-- so is each from `low` to before `end`
abbrev row : (ℕ × ℕ → Bool) → ℕ → ℕ → ℕ → Bool
row test low b a = not (nat_le low a && nat_le a b) || test (a, b)

abbrev rows_to : (ℕ × ℕ → Bool) → ℕ → ℕ → Bool
rows_to test low b = agree_below (row test low b) (λ a. true) (b + 1)

abbrev pub pass_all : (ℕ × ℕ → Bool) → ℕ → ℕ → Bool
pass_all test low end = agree_below (rows_to test low) (λ b. true) end

abbrev pub are_read : Names → ℕ → ℕ → ℕ → Bool
are_read names low high end = pass_all (is_read names low high) low end

passes : (test : ℕ × ℕ → Bool) (low end : ℕ) (range : ℕ × ℕ) → pass_all test low end ≡ true → low ≤ range.0 → range.0 ≤ range.1 → range.1 < end → test range ≡ true
passes test low end range are from order to =
    let rows = agree_below_at (rows_to test low) (λ b. true) end range.1 are to in
    let one = agree_below_at (row test low range.1) (λ a. true) (range.1 + 1) range.0 rows (omega (arith, order)) in
    sym (ap (λ t. not (t && nat_le range.0 range.1) || test range) (le-leb low range.0 from) ∙ ap (λ t. not t || test range) (le-leb range.0 range.1 order)) ∙ one

range_read : (names : Names) (low high end : ℕ) (range : ℕ × ℕ) → are_read names low high end ≡ true → low ≤ range.0 → range.0 ≤ range.1 → range.1 < end → is_read names low high range ≡ true
range_read names low high end range are from order to = passes (is_read names low high) low end range are from order to

-- what holds of the text of each range holds of all that are written
pub ranges_pass : (test : List ℕ → Bool) (low from end : ℕ) (ranges : List (ℕ × ℕ)) → pass_all (λ r. test (range_text r)) low end ≡ true → low ≤ from → AreRanges from end ranges
    → list_all test (map range_text ranges) ≡ true
ranges_pass test low from end [] pass le are = refl
ranges_pass test low from end (range ∷ ranges) pass le (begins, order, to, others) =
    ap₂ (λ a b. a && b) (passes (λ r. test (range_text r)) low end range pass (omega (arith, le, begins)) order to) (ranges_pass test low from end ranges pass le others)

pub by_ones : (a b k : ℕ) → is_by_steps a b 1 k ≡ (nat_le a k && nat_le k b)
by_ones a b k =
    let whole : (k - a) % 1 ≡ 0 = omega arith in
    ap (λ t. nat_le a k && (nat_le k b && t)) (eq-eqb ((k - a) % 1) 0 whole) ∙ ap (λ t. nat_le a k && t) (and-true (nat_le k b))

range_lists : (names : Names) (low high : ℕ) (range : ℕ × ℕ) (k : ℕ) → is_read names low high range ≡ true
    → item_lists names low high (range_text range) k ≡ Some (nat_le range.0 k && nat_le k range.1)
range_lists names low high range k is =
    let text = range_text range in
    let place = position_or_len (λ x. x == 47) text in
    let tests = and_parts (is_item text) ((place == length text) && is_span range.0 range.1 (item_span names low high text)) is in
    let both = and_parts (place == length text) (is_span range.0 range.1 (item_span names low high text)) tests.1 in
    item_plain names low high text k (le-ltb place (length text) (omega (arith, eqb-true place (length text) both.0)))
    ∙ ap (option_map (λ (span : ℕ × ℕ). is_by_steps span.0 span.1 1 k)) (span_is range.0 range.1 (item_span names low high text) both.1)
    ∙ ap Some (by_ones range.0 range.1 k)

-- what an item lists stands before what the others list
pub item_first : (names : Names) (low high : ℕ) (item : List ℕ) (items : List (List ℕ)) (k : ℕ) (here others : Bool) → item_lists names low high item k ≡ Some here
    → items_list names low high items k ≡ Some others → items_list names low high (item ∷ items) k ≡ Some (here || others)
item_first names low high item items k here others is are =
    ap (option_and_then (λ h. onto h (items_list names low high items k))) is ∙ ap (onto here) are

pub ranges_read : (names : Names) (low high from end : ℕ) (ranges : List (ℕ × ℕ)) (k : ℕ) → are_read names low high end ≡ true → low ≤ from → AreRanges from end ranges
    → items_list names low high (map range_text ranges) k ≡ Some (one_lists ranges k)
ranges_read names low high from end [] k read le are = refl
ranges_read names low high from end (range ∷ ranges) k read le (begins, order, to, others) =
    item_first names low high (range_text range) (map range_text ranges) k (nat_le range.0 k && nat_le k range.1) (one_lists ranges k)
    (range_lists names low high range k (range_read names low high end range read (omega (arith, le, begins)) order to))
    (ranges_read names low high from end ranges k read le others)

pub ranges_are_items : (names : Names) (low high from end : ℕ) (ranges : List (ℕ × ℕ)) → are_read names low high end ≡ true → low ≤ from → AreRanges from end ranges
    → list_all is_item (map range_text ranges) ≡ true
ranges_are_items names low high from end [] read le are = refl
ranges_are_items names low high from end (range ∷ ranges) read le (begins, order, to, others) =
    let text = range_text range in
    let is = range_read names low high end range read (omega (arith, le, begins)) order to in
    ap₂ (λ a b. a && b) (and_parts (is_item text) ((position_or_len (λ x. x == 47) text == length text) && is_span range.0 range.1 (item_span names low high text)) is).0
    (ranges_are_items names low high from end ranges read le others)

-- ---- what the ranges of a set list, past both ends too

one_past : (low end k : ℕ) (ranges : List (ℕ × ℕ)) → AreRanges low end ranges → end ≤ k → one_lists ranges k ≡ false
one_past low end k [] are more = refl
one_past low end k (range ∷ ranges) (from, order, to, others) more =
    ap (λ b. (nat_le range.0 k && b) || one_lists ranges k) (lt-leb k range.1 (omega (arith, to, more)))
    ∙ ap (λ b. b || one_lists ranges k) (and-false (nat_le range.0 k)) ∙ one_past low end k ranges others more

pub lacks_below : (set : FiniteSet) (low end k : ℕ) → LieBetween set low end → k < low → has set k ≡ false
lacks_below set low end k lie less = false_from_ne_true (has set k) (λ is. omega (arith, (lie k is).0, less))

pub lacks_past : (set : FiniteSet) (low end k : ℕ) → LieBetween set low end → end ≤ k → has set k ≡ false
lacks_past set low end k lie more = false_from_ne_true (has set k) (λ is. omega (arith, (lie k is).1, more))

pub one_lists-has : (set : FiniteSet) (low count k : ℕ) → LieBetween set low (low + count) → one_lists (ranges_from set count low) k ≡ has set k
one_lists-has set low count k lie =
    let are = ranges_are set count low (low + count) (omega arith) in
    elim (cases_lt k low) [
      | inl less ↦ one_from low (low + count) k (ranges_from set count low) are less ∙ sym (lacks_below set low (low + count) k lie less)
      | inr from ↦ elim (cases_lt k (low + count)) [
        | inl inside ↦ ranges_list set count low k from inside
        | inr past ↦ one_past low (low + count) k (ranges_from set count low) are past ∙ sym (lacks_past set low (low + count) k lie past)
      ]
    ]

pub all_has : (set : FiniteSet) (count low k : ℕ) → are_all set count low ≡ true → low ≤ k → k < low + count → has set k ≡ true
unfolding are_all
all_has set zero low k all from to = absurd (omega (arith, from, to))
all_has set (suc count) low k all from to =
    let parts = and_parts (has set low) (are_all set count (low + 1)) all in
    elim (cases_lt low k) [
      | inl less ↦ all_has set count (low + 1) k parts.1 (omega (arith, less)) (omega (arith, to))
      | inr ge ↦ let at : low ≡ k = omega (arith, from, ge) in ap (has set) (sym at) ∙ parts.0
    ]

-- ---- the fields, by what their ranges, their `*` and their `*/n` list

pub minutes_read : are_read Numbers 0 59 60 ≡ true
unfolding item_span range_of number_between spelled_number digits_of number_of_name natural_of
minutes_read = refl

pub hours_read : are_read Numbers 0 23 24 ≡ true
unfolding item_span range_of number_between spelled_number digits_of number_of_name natural_of
hours_read = refl

pub months_read : are_read Months 1 12 13 ≡ true
unfolding item_span range_of number_between spelled_number digits_of number_of_name month_of_letters weekday_of_letters natural_of
months_read = refl

-- `*` lists all numbers of a field
abbrev pub StarReads : Names → ℕ → ℕ → Type 0
StarReads names low high = (k : ℕ) → item_lists names low high (codes "*") k ≡ Some (is_by_steps low high 1 k)

pub minutes_star : StarReads Numbers 0 59
unfolding item_lists step_of item_span range_of number_between spelled_number digits_of number_of_name natural_of
minutes_star k = refl

pub hours_star : StarReads Numbers 0 23
unfolding item_lists step_of item_span range_of number_between spelled_number digits_of number_of_name natural_of
hours_star k = refl

pub months_star : StarReads Months 1 12
unfolding item_lists step_of item_span range_of number_between spelled_number digits_of number_of_name month_of_letters weekday_of_letters natural_of
months_star k = refl

pub star_has : (set : FiniteSet) (low count high k : ℕ) → LieBetween set low (low + count) → are_all set count low ≡ true → low + count ≡ high + 1
    → (is_by_steps low high 1 k || false) ≡ has set k
star_has set low count high k lie all ends =
    ap (λ b. b || false) (by_ones low high k) ∙ elim (cases_lt k low) [
      | inl less ↦ ap (λ b. (b && nat_le k high) || false) (lt-leb low k less) ∙ sym (lacks_below set low (low + count) k lie less)
      | inr from ↦ elim (cases_lt k (low + count)) [
        | inl inside ↦ ap₂ (λ a b. (a && b) || false) (le-leb low k from) (le-leb k high (omega (arith, ends, inside))) ∙ sym (all_has set count low k all from inside)
        | inr past ↦ ap₂ (λ a b. (a && b) || false) (le-leb low k from) (lt-leb k high (omega (arith, ends, past))) ∙ sym (lacks_past set low (low + count) k lie past)
      ]
    ]

-- ---- a field that is written lists its set

-- an answer; false if there is none
abbrev pub given : Option Bool → Bool
given None = false
given (Some b) = b

pub field_back : (names : Names) (low high k : ℕ) (items : List (List ℕ)) → list_all is_item items ≡ true → items_list names low high items k ≡ Some true
    → slice_split (λ x. x == 44) (list_text items) ≡ items
field_back names low high k [] are is = absurd (false≢true (ap given is))
field_back names low high k (item ∷ items) are is = items_back item items are

-- ---- fields as words

-- some text without a blank
abbrev pub IsWord : List ℕ → Type 0
IsWord text = (is_some_text text ≡ true) × (list_any is_blank text ≡ false)

field_lacks_blank : (items : List (List ℕ)) → list_all is_item items ≡ true → list_any is_blank (list_text items) ≡ false
field_lacks_blank [] are = refl
field_lacks_blank (item ∷ []) are = lacks_blank item (and_parts (is_item item) true are).0
field_lacks_blank (item ∷ next ∷ items) are =
    let parts = and_parts (is_item item) (list_all is_item (next ∷ items)) are in
    list_any-append is_blank item (44 ∷ list_text (next ∷ items)) ∙ ap₂ (λ a b. a || b) (lacks_blank item parts.0) (field_lacks_blank (next ∷ items) parts.1)

field_is_some : (item : List ℕ) (items : List (List ℕ)) → is_item item ≡ true → is_some_text (list_text (item ∷ items)) ≡ true
field_is_some [] items is = absurd (false≢true is)
field_is_some (x ∷ item) [] is = refl
field_is_some (x ∷ item) (next ∷ items) is = refl

pub field_is_word : (items : List (List ℕ)) → (items ≡ [] → ⊥) → list_all is_item items ≡ true → IsWord (list_text items)
field_is_word [] some are = absurd (some refl)
field_is_word (item ∷ items) some are = (field_is_some item items (and_parts (is_item item) (list_all is_item items) are).0, field_lacks_blank (item ∷ items) are)

pub field_items : (items : List (List ℕ)) → (items ≡ [] → ⊥) → list_all is_item items ≡ true → slice_split (λ x. x == 44) (list_text items) ≡ items
field_items [] some are = absurd (some refl)
field_items (item ∷ items) some are = items_back item items are

pub lists_some : (names : Names) (low high k : ℕ) (items : List (List ℕ)) → items_list names low high items k ≡ Some true → items ≡ [] → ⊥
lists_some names low high k items is none = false≢true (sym (ap (λ i. given (items_list names low high i k)) none) ∙ ap given is)
