-- Items of the fields of days, as they are read: those that name days, and all others.
use Rattle.std.proofs.Common.{◌≡◌, ◌==◌, ◌+◌, ◌-◌, ◌*◌, ◌<◌, ◌≤◌, ◌&&◌, ◌||◌, ℕ, Bool, true, false, cond, List, [], ◌∷◌, length, take, drop, Option, Some, None, refl, sym, ap, ◌∙◌, arith}
use Rattle.std.specs.Prelude.{nat_lt, not, if◌then◌else◌}
use Rattle.std.specs.Option.{option_map, option_and_then}
use Rattle.std.specs.List.{All, filter, list_any, slice_split, position_or_len}
use Rattle.std.proofs.lemmas.List.Sums.{fails_before_first}
use Rattle.std.proofs.lemmas.List.Splits.{slice_split_none, slice_split_first}
use Rattle.std.proofs.Math.Bool.{or_assoc}
use Rattle.chrono_text.specs.Lists.{pieces, stands_in}
use Rattle.chrono_sets.specs.FiniteSets.{has, no_numbers}
use Rattle.chrono_sets.proofs.Members.{has-no_numbers}
use Rattle.chrono_cron.specs.declared.named_days.MonthDays.{MonthDays}
use Rattle.chrono_cron.specs.declared.text.number_names.Names.{Names}
use Rattle.chrono_cron.specs.declared.text.number_names.Names.TheVariants.{Numbers}
use Rattle.chrono_cron.specs.Due.{no_month_days}
use Rattle.chrono_cron.specs.FieldTexts.{before_byte, behind_byte, item_lists, items_list, number_between, onto}
use Rattle.chrono_cron.specs.ScheduleTexts.{AreNamedDays, AreNamedWith, an_item_is, from_end_of, is_last_workday_text, is_number, items_of, last_weekday_of, last_workday_of, nearest_workday_of, nth_weekday_of, other_items, weekday_items_list, spelled_weekday, weekdays_list}
use Rattle.chrono_cron.proofs.FieldTexts.{nothing_behind, number_between-nothing, onto-false, onto-more, put}
use Rattle.chrono_units.proofs.SetMembers.{or-or_false}

-- without a `#` an item is no d#k
no_nth : (d n : Option ℕ) → n ≡ None → option_and_then (λ d. option_map (λ k. 7 * (k - 1) + d) n) d ≡ None
no_nth None n e = refl
no_nth (Some d) n e = ap (option_map (λ k. 7 * (k - 1) + d)) e

pub no_sharp : (text : List ℕ) → stands_in 35 text ≡ false → nth_weekday_of text ≡ None
unfolding nth_weekday_of
no_sharp text none =
    no_nth (spelled_weekday (before_byte 35 text)) (number_between Numbers 1 5 (behind_byte 35 text)) (ap (number_between Numbers 1 5) (nothing_behind 35 text none) ∙ number_between-nothing Numbers 1 5)

-- the first item and those behind it, or the last
pub items_first : (place : ℕ) (text : List ℕ) → position_or_len (λ x. x == 44) text ≡ place → place < length text → items_of text ≡ take place text ∷ items_of (drop (place + 1) text)
items_first place text at less =
    slice_split_first (λ x. x == 44) text 0 (omega (arith, at, less)) ∙ ap (λ p. take p text ∷ slice_split (λ x. x == 44) (drop (p + 1) text)) at

pub items_last : (place : ℕ) (text : List ℕ) → position_or_len (λ x. x == 44) text ≡ place → length text ≤ place → items_of text ≡ text ∷ []
items_last place text at end =
    let lacks : All (λ x. (x == 44) ≡ false) text = λ k e m. fails_before_first (λ x. x == 44) text k e (omega (arith, at, end, m)) in
    slice_split_none (λ x. x == 44) text lacks

-- one item more that may have the number, and the last
more_numbers : (number : List ℕ → Option ℕ) (text item behind : List ℕ) (k : ℕ) (all so_far : Bool) → pieces 44 text ≡ item ∷ pieces 44 behind
    → all ≡ (so_far || an_item_is number text k) → all ≡ ((so_far || is_number k (number item)) || an_item_is number behind k)
unfolding an_item_is
more_numbers number text item behind k all so_far parts e =
    e ∙ ap (λ items. so_far || list_any (λ item. is_number k (number item)) items) parts
    ∙ sym (or_assoc so_far (is_number k (number item)) (list_any (λ item. is_number k (number item)) (items_of behind)))

last_number : (number : List ℕ → Option ℕ) (text : List ℕ) (k : ℕ) (all so_far : Bool) → pieces 44 text ≡ text ∷ []
    → all ≡ (so_far || an_item_is number text k) → all ≡ (so_far || is_number k (number text))
unfolding an_item_is
last_number number text k all so_far one e =
    e ∙ ap (λ items. so_far || list_any (λ item. is_number k (number item)) items) one
    ∙ or-or_false so_far (is_number k (number text))

-- the days that the items of a text name are those of the items so far, and those that the rest names
pub record AreNamedSoFar (text rest : List ℕ) (m : MonthDays) : Type 0 where
  pub from_end : (k : ℕ) → an_item_is from_end_of text k ≡ (has m.from_end k || an_item_is from_end_of rest k)
  pub nearest_workdays : (k : ℕ) → an_item_is nearest_workday_of text k ≡ (has m.nearest_workdays k || an_item_is nearest_workday_of rest k)
  pub last_workday : an_item_is last_workday_of text 0 ≡ (m.last_workday || an_item_is last_workday_of rest 0)
  pub last_weekdays : (k : ℕ) → an_item_is last_weekday_of text k ≡ (has m.last_weekdays k || an_item_is last_weekday_of rest k)
  pub nth_weekdays : (k : ℕ) → an_item_is nth_weekday_of text k ≡ (has m.nth_weekdays k || an_item_is nth_weekday_of rest k)

none_so_far : (others : Bool) (k : ℕ) → others ≡ (has no_numbers k || others)
none_so_far others k = sym (ap (λ b. b || others) (has-no_numbers k))

pub named_first : (text : List ℕ) → AreNamedSoFar text text no_month_days
named_first text = record {
  from_end = λ k. none_so_far (an_item_is from_end_of text k) k;
  nearest_workdays = λ k. none_so_far (an_item_is nearest_workday_of text k) k;
  last_workday = refl;
  last_weekdays = λ k. none_so_far (an_item_is last_weekday_of text k) k;
  nth_weekdays = λ k. none_so_far (an_item_is nth_weekday_of text k) k;
}

-- the number 0 stands for `LW`
zero_if : (t : Bool) → is_number 0 (if t then Some 0 else None) ≡ t
zero_if true = refl
zero_if false = refl

more_named : (number : List ℕ → Option ℕ) (rest item behind : List ℕ) (k : ℕ) (all so_far next : Bool) → pieces 44 rest ≡ item ∷ pieces 44 behind
    → all ≡ (so_far || an_item_is number rest k) → next ≡ (so_far || is_number k (number item)) → all ≡ (next || an_item_is number behind k)
more_named number rest item behind k all so_far next parts e is =
    more_numbers number rest item behind k all so_far parts e ∙ ap (λ b. b || an_item_is number behind k) (sym is)

last_named : (number : List ℕ → Option ℕ) (rest : List ℕ) (k : ℕ) (all so_far next : Bool) → pieces 44 rest ≡ rest ∷ []
    → all ≡ (so_far || an_item_is number rest k) → next ≡ (so_far || is_number k (number rest)) → all ≡ next
last_named number rest k all so_far next one e is = last_number number rest k all so_far one e ∙ sym is

pub named_more : (text rest item behind : List ℕ) (m n : MonthDays) → pieces 44 rest ≡ item ∷ pieces 44 behind
    → AreNamedSoFar text rest m → AreNamedWith m item n → AreNamedSoFar text behind n
named_more text rest item behind m n parts so_far next = record {
  from_end = λ k. more_named from_end_of rest item behind k _ (has m.from_end k) _ parts (so_far.from_end k) (next.from_end k);
  nearest_workdays = λ k. more_named nearest_workday_of rest item behind k _ (has m.nearest_workdays k) _ parts (so_far.nearest_workdays k) (next.nearest_workdays k);
  last_workday = more_named last_workday_of rest item behind 0 _ m.last_workday _ parts so_far.last_workday (next.last_workday ∙ ap (λ b. m.last_workday || b) (sym (zero_if (is_last_workday_text item))));
  last_weekdays = λ k. more_named last_weekday_of rest item behind k _ (has m.last_weekdays k) _ parts (so_far.last_weekdays k) (next.last_weekdays k);
  nth_weekdays = λ k. more_named nth_weekday_of rest item behind k _ (has m.nth_weekdays k) _ parts (so_far.nth_weekdays k) (next.nth_weekdays k);
}

pub named_last : (text rest : List ℕ) (m n : MonthDays) → pieces 44 rest ≡ rest ∷ [] → AreNamedSoFar text rest m → AreNamedWith m rest n → AreNamedDays text text n
named_last text rest m n one so_far next = record {
  from_end = λ k. last_named from_end_of rest k _ (has m.from_end k) _ one (so_far.from_end k) (next.from_end k);
  nearest_workdays = λ k. last_named nearest_workday_of rest k _ (has m.nearest_workdays k) _ one (so_far.nearest_workdays k) (next.nearest_workdays k);
  last_workday = last_named last_workday_of rest 0 _ m.last_workday _ one so_far.last_workday (next.last_workday ∙ ap (λ b. m.last_workday || b) (sym (zero_if (is_last_workday_text rest))));
  last_weekdays = λ k. last_named last_weekday_of rest k _ (has m.last_weekdays k) _ one (so_far.last_weekdays k) (next.last_weekdays k);
  nth_weekdays = λ k. last_named nth_weekday_of rest k _ (has m.nth_weekdays k) _ one (so_far.nth_weekdays k) (next.nth_weekdays k);
}

-- what the items list that pass by a test: one item more, and the last
passed : (names : Names) (low high k : ℕ) (item : List ℕ) (items : List (List ℕ)) (t : Bool)
    → items_list names low high (cond (not t) (item ∷ items) items) k
    ≡ option_and_then (put (items_list names low high items k)) (if t then Some false else item_lists names low high item k)
passed names low high k item items true = onto-false (items_list names low high items k)
passed names low high k item items false = refl

pub others_first : (named : List ℕ → Bool) (names : Names) (low high : ℕ) (text item behind : List ℕ) (k : ℕ) → pieces 44 text ≡ item ∷ pieces 44 behind
    → items_list names low high (other_items named text) k
    ≡ option_and_then (put (items_list names low high (other_items named behind) k)) (if named item then Some false else item_lists names low high item k)
others_first named names low high text item behind k parts =
    ap (λ items. items_list names low high (filter (λ item. not (named item)) items) k) parts
    ∙ passed names low high k item (other_items named behind) (named item)

pub others_last : (named : List ℕ → Bool) (names : Names) (low high : ℕ) (text : List ℕ) (k : ℕ) → pieces 44 text ≡ text ∷ []
    → items_list names low high (other_items named text) k ≡ option_and_then (put (Some false)) (if named text then Some false else item_lists names low high text k)
others_last named names low high text k one =
    ap (λ items. items_list names low high (filter (λ item. not (named item)) items) k) one
    ∙ passed names low high k text [] (named text)

pub step_some : (all whole rest item : Option Bool) (so_far here : Bool) → all ≡ onto so_far whole → whole ≡ option_and_then (put rest) item → item ≡ Some here → all ≡ onto (so_far || here) rest
step_some all whole rest item so_far here e first is = e ∙ ap (onto so_far) (first ∙ ap (option_and_then (put rest)) is) ∙ onto-more so_far here rest

pub step_none : (all whole rest item : Option Bool) (so_far : Bool) → all ≡ onto so_far whole → whole ≡ option_and_then (put rest) item → item ≡ None → all ≡ None
step_none all whole rest item so_far e first is = e ∙ ap (onto so_far) (first ∙ ap (option_and_then (put rest)) is)

pub step_last : (all whole item : Option Bool) (so_far here : Bool) → all ≡ onto so_far whole → whole ≡ option_and_then (put (Some false)) item → item ≡ Some here → all ≡ Some (so_far || here)
step_last all whole item so_far here e first is = e ∙ ap (onto so_far) (first ∙ ap (option_and_then (put (Some false))) is) ∙ ap Some (or-or_false so_far here)

-- the weekdays, with 7 for Sunday
pub weekdays_none : (text : List ℕ) (k : ℕ) → weekday_items_list text k ≡ None → weekdays_list text k ≡ None
unfolding weekdays_list
weekdays_none text k e = ap (option_and_then (λ here. option_map (λ seven. nat_lt k 7 && (here || (k == 0 && seven))) (weekday_items_list text 7))) e

pub weekdays_some : (text : List ℕ) (k : ℕ) (here seven : Bool) → weekday_items_list text k ≡ Some here → weekday_items_list text 7 ≡ Some seven
    → weekdays_list text k ≡ Some (nat_lt k 7 && (here || (k == 0 && seven)))
unfolding weekdays_list
weekdays_some text k here seven e f =
    ap (option_and_then (λ here. option_map (λ seven. nat_lt k 7 && (here || (k == 0 && seven))) (weekday_items_list text 7))) e
    ∙ ap (option_map (λ seven. nat_lt k 7 && (here || (k == 0 && seven)))) f
