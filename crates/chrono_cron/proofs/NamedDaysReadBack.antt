-- The items of the two fields of days, as they are written, and what they list and name.
use Rattle.std.proofs.Common.{◌≡◌, ℕ, Bool, true, false, not, ◌||◌, if◌then◌else◌, List, [], ◌∷◌, ◌++◌, Some, refl, ap, ◌∙◌, arith, append_assoc}
use Rattle.std.specs.Prelude.{codes}
use Rattle.std.specs.List.{filter, list_all, list_any}
use Rattle.chrono_text.specs.Numbers.{digits_of, natural_of}
use Rattle.chrono_sets.specs.FiniteSets.{FiniteSet, has}
use Rattle.chrono_cron.specs.declared.text.number_names.Names.TheVariants.{Numbers}
use Rattle.chrono_cron.specs.declared.field_sets.FieldSets.{FieldSets}
use Rattle.chrono_cron.specs.declared.text.schedule_writer.DayName.TheVariants.{FromEnd, NearestWorkday}
use Rattle.chrono_cron.specs.FieldTexts.{item_lists, items_list, number_between, number_of_name, range_of, item_span, spelled_number, step_of}
use Rattle.chrono_cron.specs.ScheduleTexts.{from_end_of, is_last_workday_text, is_number, last_workday_of, names_by_place, nearest_workday_of}
use Rattle.chrono_cron.specs.WritableSchedules.{LieBetween}
use Rattle.chrono_cron.specs.WrittenTexts.{are_all, day_field_items, is_starred_by_day, name_text, names_from, number_items, range_text}
use Rattle.chrono_cron.proofs.FieldsReadBack.{StarReads, are_read, is_item, pass_all, star_has}
use Rattle.chrono_cron.proofs.DayFieldsReadBack.{StepReads, any_append, filter_append, lacks, names_any, names_read, names_tested, none_of, numbers_list, numbers_listed, numbers_pass, pass_from, stepped_has}
use Rattle.std.proofs.Math.Bool.{or-false}
use Rattle.chrono_text.proofs.ListLemmas.{all_of}

-- ---- the field of days

days_read : are_read Numbers 1 31 32 ≡ true
unfolding item_span range_of number_between spelled_number digits_of number_of_name natural_of
days_read = refl

days_star : StarReads Numbers 1 31
unfolding item_lists step_of item_span range_of number_between spelled_number digits_of number_of_name natural_of
days_star k = refl

days_step : StepReads Numbers 1 31 31
unfolding item_lists step_of range_of number_between spelled_number digits_of number_of_name natural_of
days_step k = refl

-- items that list numbers: each is some text without a comma or a blank, and names no day
abbrev is_number_of_days : List ℕ → Bool
is_number_of_days item = not (names_by_place item)

-- and each lacks a number by a kind of name
numbers-items : pass_all (λ r. is_item (range_text r)) 1 32 ≡ true
numbers-items = refl

numbers-days : pass_all (λ r. is_number_of_days (range_text r)) 1 32 ≡ true
unfolding names_by_place from_end_of is_last_workday_text nearest_workday_of number_between spelled_number digits_of number_of_name natural_of
numbers-days = refl

numbers-from_end : pass_all (λ r. lacks from_end_of (range_text r)) 1 32 ≡ true
unfolding from_end_of number_between spelled_number digits_of number_of_name natural_of
numbers-from_end = refl

numbers-last_workday : pass_all (λ r. lacks last_workday_of (range_text r)) 1 32 ≡ true
unfolding is_last_workday_text
numbers-last_workday = refl

numbers-nearest : pass_all (λ r. lacks nearest_workday_of (range_text r)) 1 32 ≡ true
unfolding nearest_workday_of number_between spelled_number digits_of number_of_name natural_of
numbers-nearest = refl

-- names by the month's end
ends-items : pass_from (λ k. is_item (name_text FromEnd k)) 0 31 ≡ true
ends-items = refl

ends-days : pass_from (λ k. names_by_place (name_text FromEnd k)) 0 31 ≡ true
unfolding names_by_place from_end_of is_last_workday_text nearest_workday_of number_between spelled_number digits_of number_of_name natural_of
ends-days = refl

ends-from_end : pass_from (λ k. is_number k (from_end_of (name_text FromEnd k))) 0 31 ≡ true
unfolding from_end_of number_between spelled_number digits_of number_of_name natural_of
ends-from_end = refl

ends-last_workday : pass_from (λ k. lacks last_workday_of (name_text FromEnd k)) 0 31 ≡ true
unfolding is_last_workday_text
ends-last_workday = refl

ends-nearest : pass_from (λ k. lacks nearest_workday_of (name_text FromEnd k)) 0 31 ≡ true
unfolding nearest_workday_of number_between spelled_number digits_of number_of_name natural_of
ends-nearest = refl

-- and by a nearest workday
workdays-items : pass_from (λ k. is_item (name_text NearestWorkday k)) 1 32 ≡ true
workdays-items = refl

workdays-days : pass_from (λ k. names_by_place (name_text NearestWorkday k)) 1 32 ≡ true
unfolding names_by_place from_end_of is_last_workday_text nearest_workday_of number_between spelled_number digits_of number_of_name natural_of
workdays-days = refl

workdays-from_end : pass_from (λ k. lacks from_end_of (name_text NearestWorkday k)) 1 32 ≡ true
unfolding from_end_of number_between spelled_number digits_of number_of_name natural_of
workdays-from_end = refl

workdays-last_workday : pass_from (λ k. lacks last_workday_of (name_text NearestWorkday k)) 1 32 ≡ true
unfolding is_last_workday_text
workdays-last_workday = refl

workdays-nearest : pass_from (λ k. is_number k (nearest_workday_of (name_text NearestWorkday k))) 1 32 ≡ true
unfolding nearest_workday_of number_between spelled_number digits_of number_of_name natural_of
workdays-nearest = refl

-- `LW`, if it is named
abbrev pub last_workdays : Bool → List (List ℕ)
last_workdays named = if named then codes "LW" ∷ [] else []

last-items : (named : Bool) → list_all is_item (last_workdays named) ≡ true
last-items true = refl
last-items false = refl

last-days : (named : Bool) → list_all names_by_place (last_workdays named) ≡ true
unfolding names_by_place from_end_of is_last_workday_text nearest_workday_of number_between spelled_number digits_of number_of_name natural_of
last-days true = refl
last-days false = refl

last-from_end : (named : Bool) → list_all (lacks from_end_of) (last_workdays named) ≡ true
unfolding from_end_of number_between spelled_number digits_of number_of_name natural_of
last-from_end true = refl
last-from_end false = refl

last-last_workday : (named : Bool) → list_any (λ item. is_number 0 (last_workday_of item)) (last_workdays named) ≡ named
unfolding is_last_workday_text
last-last_workday true = refl
last-last_workday false = refl

last-nearest : (named : Bool) → list_all (lacks nearest_workday_of) (last_workdays named) ≡ true
unfolding nearest_workday_of number_between spelled_number digits_of number_of_name natural_of
last-nearest true = refl
last-nearest false = refl

-- the parts of the field
abbrev pub day_numbers : FieldSets → List (List ℕ)
day_numbers s = number_items (is_starred_by_day s) s.days 31 1

abbrev pub ends : FieldSets → List (List ℕ)
ends s = names_from FromEnd s.month_days.from_end 31 0

abbrev pub workdays : FieldSets → List (List ℕ)
workdays s = names_from NearestWorkday s.month_days.nearest_workdays 31 1

abbrev pub day_names : FieldSets → List (List ℕ)
day_names s = ends s ++ (last_workdays s.month_days.last_workday ++ workdays s)

pub day_items_are : (s : FieldSets) → day_field_items s ≡ day_numbers s ++ day_names s
unfolding day_field_items
day_items_are s =
    append_assoc (day_numbers s ++ ends s) (last_workdays s.month_days.last_workday) (workdays s)
    ∙ append_assoc (day_numbers s) (ends s) (last_workdays s.month_days.last_workday ++ workdays s)

pub days_are_items : (s : FieldSets) → list_all is_item (day_field_items s) ≡ true
days_are_items s =
    ap (list_all is_item) (day_items_are s)
    ∙ all_of is_item (day_numbers s) (day_names s) (numbers_pass is_item s.days 31 1 (is_starred_by_day s) refl refl numbers-items)
    (all_of is_item (ends s) (last_workdays s.month_days.last_workday ++ workdays s) (names_tested is_item FromEnd s.month_days.from_end 31 0 ends-items)
    (all_of is_item (last_workdays s.month_days.last_workday) (workdays s) (last-items s.month_days.last_workday) (names_tested is_item NearestWorkday s.month_days.nearest_workdays 31 1 workdays-items)))

day_names_are : (s : FieldSets) → list_all names_by_place (day_names s) ≡ true
day_names_are s =
    all_of names_by_place (ends s) (last_workdays s.month_days.last_workday ++ workdays s) (names_tested names_by_place FromEnd s.month_days.from_end 31 0 ends-days)
    (all_of names_by_place (last_workdays s.month_days.last_workday) (workdays s) (last-days s.month_days.last_workday) (names_tested names_by_place NearestWorkday s.month_days.nearest_workdays 31 1 workdays-days))

day_numbers_are : (s : FieldSets) → list_all is_number_of_days (day_numbers s) ≡ true
unfolding names_by_place from_end_of is_last_workday_text nearest_workday_of number_between spelled_number digits_of number_of_name natural_of
day_numbers_are s = numbers_pass is_number_of_days s.days 31 1 (is_starred_by_day s) refl refl numbers-days

pub other_days : (s : FieldSets) → filter (λ item. not (names_by_place item)) (day_field_items s) ≡ number_items (is_starred_by_day s) s.days 31 1
other_days s = ap (filter (λ item. not (names_by_place item))) (day_items_are s) ∙ filter_append names_by_place (day_numbers s) (day_names s) (day_numbers_are s) (day_names_are s)

days_value : (set : FiniteSet) (k : ℕ) (starred all : Bool) → (starred ≡ true → has set 1 ≡ true) → are_all set 31 1 ≡ all → LieBetween set 1 32 → numbers_list set 1 31 31 k starred all ≡ has set k
days_value set k true true first is lie = star_has set 1 31 31 k lie is refl
days_value set k true false first is lie = stepped_has set 1 31 31 k (first refl) (λ le. omega (arith, le))
days_value set k false all first is lie = refl

pub days_listed : (s : FieldSets) → (is_starred_by_day s ≡ true → has s.days 1 ≡ true) → LieBetween s.days 1 32 → (k : ℕ)
    → items_list Numbers 1 31 (number_items (is_starred_by_day s) s.days 31 1) k ≡ Some (has s.days k)
days_listed s first lie k =
    numbers_listed Numbers s.days 1 31 31 (is_starred_by_day s) (is_starred_by_day s) (are_all s.days 31 1) refl refl days_read days_star days_step lie k
    ∙ ap Some (days_value s.days k (is_starred_by_day s) (are_all s.days 31 1) first refl lie)

-- what the items name
pub ends_named : (s : FieldSets) → LieBetween s.month_days.from_end 0 31 → (k : ℕ) → list_any (λ item. is_number k (from_end_of item)) (day_field_items s) ≡ has s.month_days.from_end k
unfolding from_end_of number_between spelled_number digits_of number_of_name natural_of
ends_named s lie k =
    let test : List ℕ → Bool = λ item. is_number k (from_end_of item) in
    let set = s.month_days.from_end in
    let none = none_of from_end_of (day_numbers s) k (numbers_pass (lacks from_end_of) s.days 31 1 (is_starred_by_day s) refl refl numbers-from_end) in
    let some = names_any from_end_of FromEnd set 31 0 k (names_read from_end_of FromEnd 0 31 ends-from_end) lie in
    let rest = any_append test (last_workdays s.month_days.last_workday) (workdays s) false false (none_of from_end_of (last_workdays s.month_days.last_workday) k (last-from_end s.month_days.last_workday))
    (none_of from_end_of (workdays s) k (names_tested (lacks from_end_of) NearestWorkday s.month_days.nearest_workdays 31 1 workdays-from_end)) in
    ap (list_any test) (day_items_are s)
    ∙ any_append test (day_numbers s) (day_names s) false (has set k || false) none (any_append test (ends s) (last_workdays s.month_days.last_workday ++ workdays s) (has set k) false some rest)
    ∙ or-false (has set k)

pub last_named : (s : FieldSets) → list_any (λ item. is_number 0 (last_workday_of item)) (day_field_items s) ≡ s.month_days.last_workday
unfolding is_last_workday_text
last_named s =
    let test : List ℕ → Bool = λ item. is_number 0 (last_workday_of item) in
    let named = s.month_days.last_workday in
    let none = none_of last_workday_of (day_numbers s) 0 (numbers_pass (lacks last_workday_of) s.days 31 1 (is_starred_by_day s) refl refl numbers-last_workday) in
    let before = none_of last_workday_of (ends s) 0 (names_tested (lacks last_workday_of) FromEnd s.month_days.from_end 31 0 ends-last_workday) in
    let behind = none_of last_workday_of (workdays s) 0 (names_tested (lacks last_workday_of) NearestWorkday s.month_days.nearest_workdays 31 1 workdays-last_workday) in
    ap (list_any test) (day_items_are s)
    ∙ any_append test (day_numbers s) (day_names s) false (false || (named || false)) none
    (any_append test (ends s) (last_workdays named ++ workdays s) false (named || false) before (any_append test (last_workdays named) (workdays s) named false (last-last_workday named) behind))
    ∙ or-false named

pub nearest_named : (s : FieldSets) → LieBetween s.month_days.nearest_workdays 1 32 → (k : ℕ) → list_any (λ item. is_number k (nearest_workday_of item)) (day_field_items s) ≡ has s.month_days.nearest_workdays k
unfolding nearest_workday_of number_between spelled_number digits_of number_of_name natural_of
nearest_named s lie k =
    let test : List ℕ → Bool = λ item. is_number k (nearest_workday_of item) in
    let set = s.month_days.nearest_workdays in
    let named = s.month_days.last_workday in
    let none = none_of nearest_workday_of (day_numbers s) k (numbers_pass (lacks nearest_workday_of) s.days 31 1 (is_starred_by_day s) refl refl numbers-nearest) in
    let before = none_of nearest_workday_of (ends s) k (names_tested (lacks nearest_workday_of) FromEnd s.month_days.from_end 31 0 ends-nearest) in
    let last = none_of nearest_workday_of (last_workdays named) k (last-nearest named) in
    let some = names_any nearest_workday_of NearestWorkday set 31 1 k (names_read nearest_workday_of NearestWorkday 1 32 workdays-nearest) lie in
    ap (list_any test) (day_items_are s)
    ∙ any_append test (day_numbers s) (day_names s) false (has set k) none (any_append test (ends s) (last_workdays named ++ workdays s) false (has set k) before (any_append test (last_workdays named) (workdays s) false (has set k) last some))
