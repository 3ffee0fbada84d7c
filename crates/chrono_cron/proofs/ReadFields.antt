-- A field that is read lists a number, and none but its own.
use Rattle.std.proofs.Common.{◌≡◌, ◌==◌, ◌-◌, ◌%◌, ◌<◌, ◌≤◌, ◌+◌, ◌&&◌, ◌||◌, ℕ, Bool, true, false, List, [], ◌∷◌, Option, Some, None, refl, sym, ap, ap₂, ◌∙◌, arith, eq-eqb, ◌⊎◌, inl, inr}
use Rattle.std.proofs.Math.Nat.{mod-eq_of_lt}
use Rattle.std.specs.Prelude.{nat_le, if◌then◌else◌}
use Rattle.std.specs.Option.{option_map, option_and_then, option_or}
use Rattle.std.proofs.lemmas.Bool.{and_parts, false≢true, leb-true}
use Rattle.std.proofs.lemmas.Option.{none-some, same_Some}
use Rattle.chrono_sets.specs.Steps.{is_by_steps}
use Rattle.chrono_sets.specs.FiniteSets.{FiniteSet, has}
use Rattle.chrono_cron.specs.declared.text.number_names.Names.{Names}
use Rattle.chrono_text.specs.Lists.{stands_in}
use Rattle.chrono_text.specs.Numbers.{if_within}
use Rattle.chrono_cron.specs.FieldTexts.{before_byte, behind_byte, field_lists, is_star, item_lists, items_list, number_between, onto, range_of, item_span, spelled_number, step_of}
use Rattle.chrono_cron.proofs.FieldTexts.{step_some}
use Rattle.chrono_cron.specs.ScheduleTexts.{AreListed, items_of}
use Rattle.chrono_cron.specs.WritableSchedules.{LieBetween, Member}
use Rattle.chrono_cron.proofs.FieldFaults.{some_items}
use Rattle.chrono_sets.proofs.Steps.{is_by_steps-true}

-- a number that is read lies in its range
tested_in : (low high m n : ℕ) (a b : Bool) → nat_le low m ≡ a → nat_le m high ≡ b → (if a && b then Some m else None) ≡ Some n → (low ≤ n) × (n ≤ high)
tested_in low high m n true true p q e = (omega (arith, leb-true low m p, same_Some m n e), omega (arith, leb-true m high q, same_Some m n e))
tested_in low high m n true false p q e = absurd (none-some n e)
tested_in low high m n false b p q e = absurd (none-some n e)

within_bounds : (low high n : ℕ) (o : Option ℕ) → option_and_then (if_within low high) o ≡ Some n → (low ≤ n) × (n ≤ high)
within_bounds low high n None e = absurd (none-some n e)
within_bounds low high n (Some m) e = tested_in low high m n (nat_le low m) (nat_le m high) refl refl e

pub number_bounds : (names : Names) (low high n : ℕ) (text : List ℕ) → number_between names low high text ≡ Some n → (low ≤ n) × (n ≤ high)
unfolding number_between
number_bounds names low high n text e = within_bounds low high n (spelled_number names text) e

-- so do both ends of a range, which is not turned round
abbrev IsSpan : ℕ → ℕ → ℕ × ℕ → Type 0
IsSpan low high span = (low ≤ span.0) × (span.0 ≤ span.1) × (span.1 ≤ high)

span_is : (low high a b : ℕ) (span : ℕ × ℕ) → Some (a, b) ≡ Some span → low ≤ a → a ≤ b → b ≤ high → IsSpan low high span
span_is low high a b span e p q r =
    let same = same_Some (a, b) span e in
    let first : a ≡ span.0 = ap (λ (s : ℕ × ℕ). s.0) same in
    let last : b ≡ span.1 = ap (λ (s : ℕ × ℕ). s.1) same in
    (omega (arith, first, p), omega (arith, first, last, q), omega (arith, last, r))

ends_in : (low high n : ℕ) (o : Option ℕ) (span : ℕ × ℕ) → low ≤ n → ((m : ℕ) → o ≡ Some m → (n ≤ m) × (m ≤ high)) → option_map (λ m. (n, m)) o ≡ Some span → IsSpan low high span
ends_in low high n None span from bounds e = absurd (none-some span e)
ends_in low high n (Some m) span from bounds e = let last = bounds m refl in span_is low high n m span e from last.0 last.1

range_by : (names : Names) (low high : ℕ) (last : List ℕ) (first : Option ℕ) (t : Bool) (span : ℕ × ℕ) → low ≤ high → ((n : ℕ) → first ≡ Some n → (low ≤ n) × (n ≤ high))
    → (if t then Some (low, high) else option_and_then (λ n. option_map (λ m. (n, m)) (number_between names n high last)) first) ≡ Some span → IsSpan low high span
range_by names low high last first true span le bounds e = span_is low high low high span e (omega arith) le (omega arith)
range_by names low high last None false span le bounds e = absurd (none-some span e)
range_by names low high last (Some n) false span le bounds e =
    ends_in low high n (number_between names n high last) span (bounds n refl).0 (λ m. number_bounds names n high m last) e

range_bounds : (names : Names) (low high : ℕ) (text : List ℕ) (span : ℕ × ℕ) → low ≤ high → range_of names low high text ≡ Some span → IsSpan low high span
unfolding range_of
range_bounds names low high text span le e =
    range_by names low high (behind_byte 45 text) (number_between names low high (before_byte 45 text)) (is_star text) span le (λ n. number_bounds names low high n (before_byte 45 text)) e

either_in : (low high : ℕ) (o : Option ℕ) (range : Option (ℕ × ℕ)) (span : ℕ × ℕ) → ((n : ℕ) → o ≡ Some n → (low ≤ n) × (n ≤ high)) → (range ≡ Some span → IsSpan low high span)
    → option_or (option_map (λ n. (n, n)) o) range ≡ Some span → IsSpan low high span
either_in low high None range span bounds others e = others e
either_in low high (Some n) range span bounds others e = let is = bounds n refl in span_is low high n n span e is.0 (omega arith) is.1

span_bounds : (names : Names) (low high : ℕ) (text : List ℕ) (span : ℕ × ℕ) → low ≤ high → item_span names low high text ≡ Some span → IsSpan low high span
unfolding item_span
span_bounds names low high text span le e =
    either_in low high (number_between names low high text) (range_of names low high text) span (λ n. number_bounds names low high n text) (range_bounds names low high text span le) e

-- an item that is read lists a span by steps
abbrev by_steps : ℕ → Option (ℕ × ℕ) → Option ℕ → Option Bool
by_steps k range steps = option_and_then (λ span. option_map (λ step. is_by_steps span.0 span.1 step k) steps) range

abbrev by_ones : ℕ → Option (ℕ × ℕ) → Option Bool
by_ones k = option_map (λ span. is_by_steps span.0 span.1 1 k)

abbrev listed : Names → ℕ → ℕ → List ℕ → ℕ → Bool → Option Bool
listed names low high text k t =
    if t then by_steps k (range_of names low high (before_byte 47 text)) (step_of (behind_byte 47 text)) else by_ones k (item_span names low high text)

abbrev pub Spans : Names → ℕ → ℕ → List ℕ → (ℕ → Option Bool) → Type 0
Spans names low high text lists =
    (span : ℕ × ℕ) × (step : ℕ) × (0 < step) × IsSpan low high span × ((j : ℕ) → lists j ≡ Some (is_by_steps span.0 span.1 step j))
    × ((range_of names low high (before_byte 47 text) ≡ Some span) ⊎ (item_span names low high text ≡ Some span))

stepped : (range : Option (ℕ × ℕ)) (steps : Option ℕ) (k : ℕ) (b : Bool) → by_steps k range steps ≡ Some b → (span : ℕ × ℕ) × (step : ℕ) × (range ≡ Some span) × (steps ≡ Some step)
stepped None steps k b e = absurd (none-some b e)
stepped (Some span) None k b e = absurd (none-some b e)
stepped (Some span) (Some step) k b e = (span, step, refl, refl)

alone : (spans : Option (ℕ × ℕ)) (k : ℕ) (b : Bool) → by_ones k spans ≡ Some b → (span : ℕ × ℕ) × (spans ≡ Some span)
alone None k b e = absurd (none-some b e)
alone (Some span) k b e = (span, refl)

spans_by : (names : Names) (low high : ℕ) (text : List ℕ) (k : ℕ) (b t : Bool) → low ≤ high → listed names low high text k t ≡ Some b → Spans names low high text (λ j. listed names low high text j t)
spans_by names low high text k b true le e =
    let found = stepped (range_of names low high (before_byte 47 text)) (step_of (behind_byte 47 text)) k b e in
    (found.0, found.1, step_some (behind_byte 47 text) found.1 found.3, range_bounds names low high (before_byte 47 text) found.0 le found.2, λ j. ap₂ (by_steps j) found.2 found.3, inl found.2)
spans_by names low high text k b false le e =
    let found = alone (item_span names low high text) k b e in
    (found.0, 1, omega arith, span_bounds names low high text found.0 le found.1, λ j. ap (by_ones j) found.1, inr found.1)

pub spans : (names : Names) (low high : ℕ) (text : List ℕ) (k : ℕ) (b : Bool) → low ≤ high → item_lists names low high text k ≡ Some b → Spans names low high text (item_lists names low high text)
unfolding item_lists
spans names low high text k b le e = spans_by names low high text k b (stands_in 47 text) le e

item_bounds : (names : Names) (low high : ℕ) (text : List ℕ) (k : ℕ) → low ≤ high → item_lists names low high text k ≡ Some true → (low ≤ k) × (k ≤ high)
item_bounds names low high text k le e =
    let found = spans names low high text k true le e in
    let span = found.0 in
    let is = found.3 in
    let steps = same_Some (is_by_steps span.0 span.1 found.1 k) true (sym (found.4 k) ∙ e) in
    let from = and_parts (nat_le span.0 k) (nat_le k span.1 && ((k - span.0) % found.1 == 0)) steps in
    let to = and_parts (nat_le k span.1) ((k - span.0) % found.1 == 0) from.1 in
    (omega (arith, leb-true span.0 k from.0, is.0), omega (arith, leb-true k span.1 to.0, is.2))

-- items of which one lists a number
both_read : (here others : Option Bool) (b : Bool) → option_and_then (λ h. onto h others) here ≡ Some b → (h : Bool) × (o : Bool) × (here ≡ Some h) × (others ≡ Some o) × ((h || o) ≡ b)
both_read None others b e = absurd (none-some b e)
both_read (Some h) None b e = absurd (none-some b e)
both_read (Some h) (Some o) b e = (h, o, refl, refl, same_Some (h || o) b e)

pub one_of : (h o : Bool) (P : Type 0) → (h || o) ≡ true → (h ≡ true → P) → (o ≡ true → P) → P
one_of true o P e f g = f refl
one_of false o P e f g = g e

pub items_bounds : (names : Names) (low high : ℕ) (items : List (List ℕ)) (k : ℕ) → low ≤ high → items_list names low high items k ≡ Some true → (low ≤ k) × (k ≤ high)
items_bounds names low high [] k le e = absurd (false≢true (same_Some false true e))
items_bounds names low high (item ∷ items) k le e =
    let found = both_read (item_lists names low high item k) (items_list names low high items k) true e in
    one_of found.0 found.1 ((low ≤ k) × (k ≤ high)) found.4
    (λ yes. item_bounds names low high item k le (found.2 ∙ ap Some yes))
    (λ yes. items_bounds names low high items k le (found.3 ∙ ap Some yes))

-- an item lists its first number, and so do items
pub item_first : (names : Names) (low high : ℕ) (text : List ℕ) (found : Spans names low high text (item_lists names low high text)) → item_lists names low high text found.0.0 ≡ Some true
item_first names low high text found =
    let first = found.0.0 in
    let none : first - first ≡ 0 = omega arith in
    let whole = eq-eqb ((first - first) % found.1) 0 (ap (λ n. n % found.1) none ∙ mod-eq_of_lt {n = 0} {m = found.1} found.2) in
    found.4 first ∙ ap Some (is_by_steps-true first found.0.1 found.1 first (omega arith) found.3.1 whole)

pub both_first : (names : Names) (low high k : ℕ) (item : List ℕ) (items : List (List ℕ)) (b : Bool) → items_list names low high (item ∷ items) k ≡ Some b → (h : Bool) × (item_lists names low high item k ≡ Some h)
both_first names low high k item items b e = let both = both_read (item_lists names low high item k) (items_list names low high items k) b e in (both.0, both.2)

pub item_of_items : (names : Names) (low high k : ℕ) (item : List ℕ) (items : List (List ℕ)) (b : Bool) → items_list names low high (item ∷ items) k ≡ Some b → item_lists names low high item k ≡ Some true → b ≡ true
item_of_items names low high k item items b e is =
    let both = both_read (item_lists names low high item k) (items_list names low high items k) b e in
    sym both.4 ∙ ap (λ h. h || both.1) (same_Some both.0 true (sym both.2 ∙ is))

pub first_listed : (names : Names) (low high : ℕ) (item : List ℕ) (items : List (List ℕ)) (lists : ℕ → Bool) → low ≤ high
    → ((k : ℕ) → items_list names low high (item ∷ items) k ≡ Some (lists k)) → (k : ℕ) × (k ≤ high) × (lists k ≡ true)
first_listed names low high item items lists le all =
    let zero = both_read (item_lists names low high item 0) (items_list names low high items 0) (lists 0) (all 0) in
    let found = spans names low high item 0 zero.0 le zero.2 in
    let is = found.3 in
    (found.0.0, omega (arith, is.1, is.2), item_of_items names low high found.0.0 item items (lists found.0.0) (all found.0.0) (item_first names low high item found))

pub field_told : (names : Names) (low high : ℕ) (text : List ℕ) (set : FiniteSet) → low ≤ high → AreListed set (field_lists names low high text) → LieBetween set low (high + 1) × Member set
unfolding field_lists
field_told names low high text set le all =
    let some = some_items text in
    let first = first_listed names low high some.0 some.1 (has set) le (λ k. sym (ap (λ items. items_list names low high items k) some.2) ∙ all k) in (
      λ k is. let bounds = items_bounds names low high (items_of text) k le (all k ∙ ap Some is) in (bounds.0, omega (arith, bounds.1)),
      (first.0, first.2),
    )
