-- The items of the field of weekdays, as they are written, and what they list and name.
use Rattle.std.proofs.Common.{◌≡◌, ℕ, ◌<◌, ◌==◌, Bool, true, false, not, ◌&&◌, ◌||◌, List, ◌++◌, Some, inl, inr, refl, sym, ap, ap₂, ◌∙◌, arith, append_assoc, ne_eqb}
use Rattle.std.specs.Prelude.{nat_lt}
use Rattle.std.specs.List.{filter, list_all, list_any}
use Rattle.std.specs.Option.{option_and_then, option_map}
use Rattle.std.proofs.lemmas.Bool.{cases_lt, false≢true, le-leb, le-ltb, lt-ltb}
use Rattle.chrono_text.specs.Numbers.{digits_of, natural_of}
use Rattle.chrono_sets.specs.FiniteSets.{FiniteSet, has}
use Rattle.chrono_cron.specs.declared.text.number_names.Names.TheVariants.{Weekdays}
use Rattle.chrono_cron.specs.declared.field_sets.FieldSets.{FieldSets}
use Rattle.chrono_cron.specs.declared.text.schedule_writer.DayName.TheVariants.{LastWeekday, NthWeekday}
use Rattle.chrono_datetime.specs.Names.{month_of_letters, weekday_of_letters}
use Rattle.chrono_cron.specs.FieldTexts.{item_lists, items_list, number_between, number_of_name, range_of, item_span, spelled_number, step_of}
use Rattle.chrono_cron.specs.ScheduleTexts.{is_number, last_weekday_of, names_by_weekday, nth_weekday_of}
use Rattle.chrono_cron.specs.WritableSchedules.{LieBetween}
use Rattle.chrono_cron.specs.WrittenTexts.{are_all, is_starred_by_weekday, name_text, names_from, number_items, range_text, weekday_field_items}
use Rattle.chrono_cron.proofs.FieldsReadBack.{StarReads, all_has, are_read, by_ones, is_item, lacks_past, pass_all}
use Rattle.chrono_cron.proofs.DayFieldsReadBack.{StepReads, any_append, filter_append, lacks, names_any, names_read, names_tested, none_of, numbers_list, numbers_listed, numbers_pass, pass_from, stepped_has}
use Rattle.std.proofs.Math.Bool.{or-false}
use Rattle.chrono_text.proofs.ListLemmas.{all_of}
use Rattle.chrono_units.proofs.SetMembers.{or-known}

weekdays_read : are_read Weekdays 0 7 7 ≡ true
unfolding item_span range_of number_between spelled_number digits_of number_of_name month_of_letters weekday_of_letters natural_of
weekdays_read = refl

weekdays_star : StarReads Weekdays 0 7
unfolding item_lists step_of item_span range_of number_between spelled_number digits_of number_of_name month_of_letters weekday_of_letters natural_of
weekdays_star k = refl

weekdays_step : StepReads Weekdays 0 7 7
unfolding item_lists step_of range_of number_between spelled_number digits_of number_of_name month_of_letters weekday_of_letters natural_of
weekdays_step k = refl

abbrev is_number_of_weekdays : List ℕ → Bool
is_number_of_weekdays item = not (names_by_weekday item)

numbers-items : pass_all (λ r. is_item (range_text r)) 0 7 ≡ true
numbers-items = refl

numbers-weekdays : pass_all (λ r. is_number_of_weekdays (range_text r)) 0 7 ≡ true
unfolding names_by_weekday last_weekday_of nth_weekday_of number_between spelled_number digits_of number_of_name month_of_letters weekday_of_letters natural_of
numbers-weekdays = refl

numbers-last : pass_all (λ r. lacks last_weekday_of (range_text r)) 0 7 ≡ true
unfolding last_weekday_of number_between spelled_number digits_of number_of_name month_of_letters weekday_of_letters natural_of
numbers-last = refl

numbers-nth : pass_all (λ r. lacks nth_weekday_of (range_text r)) 0 7 ≡ true
unfolding nth_weekday_of number_between spelled_number digits_of number_of_name month_of_letters weekday_of_letters natural_of
numbers-nth = refl

last-items : pass_from (λ k. is_item (name_text LastWeekday k)) 0 7 ≡ true
last-items = refl

last-weekdays : pass_from (λ k. names_by_weekday (name_text LastWeekday k)) 0 7 ≡ true
unfolding names_by_weekday last_weekday_of nth_weekday_of number_between spelled_number digits_of number_of_name month_of_letters weekday_of_letters natural_of
last-weekdays = refl

last-last : pass_from (λ k. is_number k (last_weekday_of (name_text LastWeekday k))) 0 7 ≡ true
unfolding last_weekday_of number_between spelled_number digits_of number_of_name month_of_letters weekday_of_letters natural_of
last-last = refl

last-nth : pass_from (λ k. lacks nth_weekday_of (name_text LastWeekday k)) 0 7 ≡ true
unfolding nth_weekday_of number_between spelled_number digits_of number_of_name month_of_letters weekday_of_letters natural_of
last-nth = refl

nth-items : pass_from (λ k. is_item (name_text NthWeekday k)) 0 35 ≡ true
nth-items = refl

nth-weekdays : pass_from (λ k. names_by_weekday (name_text NthWeekday k)) 0 35 ≡ true
unfolding names_by_weekday last_weekday_of nth_weekday_of number_between spelled_number digits_of number_of_name month_of_letters weekday_of_letters natural_of
nth-weekdays = refl

nth-last : pass_from (λ k. lacks last_weekday_of (name_text NthWeekday k)) 0 35 ≡ true
unfolding last_weekday_of number_between spelled_number digits_of number_of_name month_of_letters weekday_of_letters natural_of
nth-last = refl

nth-nth : pass_from (λ k. is_number k (nth_weekday_of (name_text NthWeekday k))) 0 35 ≡ true
unfolding nth_weekday_of number_between spelled_number digits_of number_of_name month_of_letters weekday_of_letters natural_of
nth-nth = refl

-- the parts of the field
abbrev pub weekday_numbers : FieldSets → List (List ℕ)
weekday_numbers s = number_items (is_starred_by_weekday s) s.weekdays 7 0

abbrev pub lasts : FieldSets → List (List ℕ)
lasts s = names_from LastWeekday s.month_days.last_weekdays 7 0

abbrev pub nths : FieldSets → List (List ℕ)
nths s = names_from NthWeekday s.month_days.nth_weekdays 35 0

pub weekday_items_are : (s : FieldSets) → weekday_field_items s ≡ weekday_numbers s ++ (lasts s ++ nths s)
unfolding weekday_field_items
weekday_items_are s = append_assoc (weekday_numbers s) (lasts s) (nths s)

pub weekdays_are_items : (s : FieldSets) → list_all is_item (weekday_field_items s) ≡ true
weekdays_are_items s =
    ap (list_all is_item) (weekday_items_are s)
    ∙ all_of is_item (weekday_numbers s) (lasts s ++ nths s) (numbers_pass is_item s.weekdays 7 0 (is_starred_by_weekday s) refl refl numbers-items)
    (all_of is_item (lasts s) (nths s) (names_tested is_item LastWeekday s.month_days.last_weekdays 7 0 last-items) (names_tested is_item NthWeekday s.month_days.nth_weekdays 35 0 nth-items))

names_are : (s : FieldSets) → list_all names_by_weekday (lasts s ++ nths s) ≡ true
names_are s =
    all_of names_by_weekday (lasts s) (nths s) (names_tested names_by_weekday LastWeekday s.month_days.last_weekdays 7 0 last-weekdays)
    (names_tested names_by_weekday NthWeekday s.month_days.nth_weekdays 35 0 nth-weekdays)

numbers_are : (s : FieldSets) → list_all is_number_of_weekdays (weekday_numbers s) ≡ true
unfolding names_by_weekday last_weekday_of nth_weekday_of number_between spelled_number digits_of number_of_name month_of_letters weekday_of_letters natural_of
numbers_are s = numbers_pass is_number_of_weekdays s.weekdays 7 0 (is_starred_by_weekday s) refl refl numbers-weekdays

pub other_weekdays : (s : FieldSets) → filter (λ item. not (names_by_weekday item)) (weekday_field_items s) ≡ number_items (is_starred_by_weekday s) s.weekdays 7 0
other_weekdays s = ap (filter (λ item. not (names_by_weekday item))) (weekday_items_are s) ∙ filter_append names_by_weekday (weekday_numbers s) (lasts s ++ nths s) (numbers_are s) (names_are s)

-- within the week the items list the members, and 7 besides only where they list 0
within_week : (set : FiniteSet) (k : ℕ) (starred all : Bool) → (starred ≡ true → has set 0 ≡ true) → are_all set 7 0 ≡ all → k < 7 → numbers_list set 0 7 7 k starred all ≡ has set k
within_week set k true true first is lt =
    ap (λ b. b || false) (by_ones 0 7 k) ∙ ap₂ (λ a b. (a && b) || false) (le-leb 0 k (omega arith)) (le-leb k 7 (omega (arith, lt))) ∙ sym (all_has set 7 0 k is (omega arith) (omega (arith, lt)))
within_week set k true false first is lt = stepped_has set 0 7 7 k (first refl) (λ le. omega (arith, lt))
within_week set k false all first is lt = refl

seven_listed : (set : FiniteSet) (starred all : Bool) → (starred ≡ true → has set 0 ≡ true) → LieBetween set 0 7 → numbers_list set 0 7 7 7 starred all ≡ true → has set 0 ≡ true
seven_listed set true all first lie is = first refl
seven_listed set false all first lie is = absurd (false≢true (sym (lacks_past set 0 7 7 lie (omega arith)) ∙ is))

week_has : (set : FiniteSet) (k : ℕ) (here seven : Bool) → LieBetween set 0 7 → (k < 7 → here ≡ has set k) → (seven ≡ true → has set 0 ≡ true)
    → (nat_lt k 7 && (here || (k == 0 && seven))) ≡ has set k
week_has set k here seven lie is sunday = elim (cases_lt k 7) [
  | inl lt ↦ ap (λ b. b && (here || (k == 0 && seven))) (lt-ltb k 7 lt) ∙ ap (λ h. h || (k == 0 && seven)) (is lt) ∙ elim (cases_lt 0 k) [
    | inl some ↦ ap (λ b. has set k || (b && seven)) (ne_eqb k 0 (omega (arith, some))) ∙ or-false (has set k)
    | inr none ↦
        let at : k ≡ 0 = omega (arith, none) in
        ap (λ j. has set j || (j == 0 && seven)) at ∙ or-known (has set 0) seven sunday ∙ ap (has set) (sym at)
  ]
  | inr past ↦ ap (λ b. b && (here || (k == 0 && seven))) (le-ltb k 7 past) ∙ sym (lacks_past set 0 7 k lie past)
]

pub weekdays_listed : (s : FieldSets) → (is_starred_by_weekday s ≡ true → has s.weekdays 0 ≡ true) → LieBetween s.weekdays 0 7 → (k : ℕ)
    → option_and_then (λ here. option_map (λ seven. nat_lt k 7 && (here || (k == 0 && seven))) (items_list Weekdays 0 7 (number_items (is_starred_by_weekday s) s.weekdays 7 0) 7))
    (items_list Weekdays 0 7 (number_items (is_starred_by_weekday s) s.weekdays 7 0) k) ≡ Some (has s.weekdays k)
weekdays_listed s first lie k =
    let starred = is_starred_by_weekday s in
    let all = are_all s.weekdays 7 0 in
    let lists : (j : ℕ) → items_list Weekdays 0 7 (weekday_numbers s) j ≡ Some (numbers_list s.weekdays 0 7 7 j starred all) =
    λ j. numbers_listed Weekdays s.weekdays 0 7 7 starred starred all refl refl weekdays_read weekdays_star weekdays_step lie j in
    ap₂ (λ a b. option_and_then (λ here. option_map (λ seven. nat_lt k 7 && (here || (k == 0 && seven))) a) b) (lists 7) (lists k)
    ∙ ap Some (week_has s.weekdays k (numbers_list s.weekdays 0 7 7 k starred all) (numbers_list s.weekdays 0 7 7 7 starred all) lie
    (λ lt. within_week s.weekdays k starred all first refl lt) (λ is. seven_listed s.weekdays starred all first lie is))

-- what the items name
pub lasts_named : (s : FieldSets) → LieBetween s.month_days.last_weekdays 0 7 → (k : ℕ) → list_any (λ item. is_number k (last_weekday_of item)) (weekday_field_items s) ≡ has s.month_days.last_weekdays k
unfolding last_weekday_of number_between spelled_number digits_of number_of_name month_of_letters weekday_of_letters natural_of
lasts_named s lie k =
    let test : List ℕ → Bool = λ item. is_number k (last_weekday_of item) in
    let set = s.month_days.last_weekdays in
    let none = none_of last_weekday_of (weekday_numbers s) k (numbers_pass (lacks last_weekday_of) s.weekdays 7 0 (is_starred_by_weekday s) refl refl numbers-last) in
    let some = names_any last_weekday_of LastWeekday set 7 0 k (names_read last_weekday_of LastWeekday 0 7 last-last) lie in
    let behind = none_of last_weekday_of (nths s) k (names_tested (lacks last_weekday_of) NthWeekday s.month_days.nth_weekdays 35 0 nth-last) in
    ap (list_any test) (weekday_items_are s)
    ∙ any_append test (weekday_numbers s) (lasts s ++ nths s) false (has set k || false) none (any_append test (lasts s) (nths s) (has set k) false some behind) ∙ or-false (has set k)

pub nths_named : (s : FieldSets) → LieBetween s.month_days.nth_weekdays 0 35 → (k : ℕ) → list_any (λ item. is_number k (nth_weekday_of item)) (weekday_field_items s) ≡ has s.month_days.nth_weekdays k
unfolding nth_weekday_of number_between spelled_number digits_of number_of_name month_of_letters weekday_of_letters natural_of
nths_named s lie k =
    let test : List ℕ → Bool = λ item. is_number k (nth_weekday_of item) in
    let set = s.month_days.nth_weekdays in
    let none = none_of nth_weekday_of (weekday_numbers s) k (numbers_pass (lacks nth_weekday_of) s.weekdays 7 0 (is_starred_by_weekday s) refl refl numbers-nth) in
    let before = none_of nth_weekday_of (lasts s) k (names_tested (lacks nth_weekday_of) LastWeekday s.month_days.last_weekdays 7 0 last-nth) in
    let some = names_any nth_weekday_of NthWeekday set 35 0 k (names_read nth_weekday_of NthWeekday 0 35 nth-nth) lie in
    ap (list_any test) (weekday_items_are s)
    ∙ any_append test (weekday_numbers s) (lasts s ++ nths s) false (has set k) none (any_append test (lasts s) (nths s) false (has set k) before some)
