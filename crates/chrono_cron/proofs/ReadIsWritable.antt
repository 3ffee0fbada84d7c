-- A schedule that is read is one that texts tell.
use Rattle.std.proofs.Common.{◌≡◌, ◌==◌, ◌-◌, ◌*◌, ◌%◌, ◌<◌, ◌≤◌, ◌+◌, ◌&&◌, ◌||◌, ◌⊎◌, ℕ, zero, suc, Bool, true, false, cond, List, [], ◌∷◌, length, take, drop, Option, Some, None, inl, inr, refl, sym, ap, ap₂, ◌∙◌, arith, eq-eqb}
use Rattle.std.specs.Prelude.{codes, is_some, nat_le, nat_lt, not, slice_index, if◌then◌else◌}
use Rattle.std.specs.Char.{to_ascii_lowercase}
use Rattle.std.specs.List.{filter, list_any, onto_first, position_or_len}
use Rattle.std.specs.Option.{option_map, option_and_then, option_or}
use Rattle.std.specs.Str.{str_eq_ignore_ascii_case}
use Rattle.std.proofs.Math.Bool.{or-true}
use Rattle.std.proofs.lemmas.Bool.{and_parts, cases_Bool, cases_lt, eqb-true, false≢true, lt-ltb, ltb-true}
use Rattle.std.proofs.lemmas.List.Splits.{slice_split-cons_no}
use Rattle.std.proofs.lemmas.Option.{none-some, same_Some}
use Rattle.chrono_text.specs.Numbers.{digits_of, natural_of}
use Rattle.chrono_sets.specs.FiniteSets.{FiniteSet, has}
use Rattle.chrono_cron.specs.declared.text.number_names.Names.{Names}
use Rattle.chrono_cron.specs.declared.text.number_names.Names.TheVariants.{Numbers, Months, Weekdays}
use Rattle.chrono_cron.specs.declared.field_sets.FieldSets.{FieldSets}
use Rattle.chrono_text.specs.Lists.{begins_alike}
use Rattle.chrono_datetime.specs.Names.{month_of_letters, weekday_of_letters}
use Rattle.chrono_cron.specs.FieldTexts.{before_byte, behind_byte, field_lists, item_lists, items_list, number_between, number_of_name, range_of, range_to, spelled_number}
use Rattle.chrono_cron.specs.ScheduleTexts.{AreListed, AreNamed, AreNamedDays, IsScheduleText, an_item_is, before_letter, begins_with_star, days_list, from_end_of, is_last_workday_text, is_number, items_of, last_weekday_of, last_workday_of, names_by_place, names_by_weekday, nearest_workday_of, nth_weekday_of, spelled_weekday, weekdays_list}
use Rattle.chrono_cron.specs.WritableSchedules.{IsWritable, LieBetween, Member}
use Rattle.chrono_cron.proofs.DayFieldsReadBack.{number_is}
use Rattle.chrono_cron.proofs.FieldsReadBack.{given}
use Rattle.chrono_cron.proofs.FieldFaults.{some_items}
use Rattle.chrono_cron.proofs.FieldTexts.{number_between-nothing, number_none, span_range}
use Rattle.chrono_cron.proofs.ReadFields.{field_told, both_first, first_listed, item_first, item_of_items, items_bounds, number_bounds, one_of, spans}

-- ---- the numbers of names

from_end_by : (a b : Bool) (text : List ℕ) (n : ℕ) → (if a then Some 0 else if b then number_between Numbers 1 30 text else None) ≡ Some n → n ≤ 30
from_end_by true b text n e = omega (arith, same_Some 0 n e)
from_end_by false true text n e = (number_bounds Numbers 1 30 n text e).1
from_end_by false false text n e = absurd (none-some n e)

from_end_bounds : (text : List ℕ) (n : ℕ) → from_end_of text ≡ Some n → n ≤ 30
unfolding from_end_of
from_end_bounds text n e = from_end_by (str_eq_ignore_ascii_case text (codes "L")) (begins_alike (codes "L-") text) (drop 2 text) n e

nearest_by : (front : Option (List ℕ)) (n : ℕ) → option_and_then (number_between Numbers 1 31) front ≡ Some n → (1 ≤ n) × (n ≤ 31)
nearest_by None n e = absurd (none-some n e)
nearest_by (Some text) n e = number_bounds Numbers 1 31 n text e

nearest_bounds : (text : List ℕ) (n : ℕ) → nearest_workday_of text ≡ Some n → (1 ≤ n) × (n ≤ 31)
unfolding nearest_workday_of
nearest_bounds text n e = nearest_by (before_letter 119 text) n e

week_by : (o : Option ℕ) (n : ℕ) → option_map (λ d. d % 7) o ≡ Some n → n < 7
week_by None n e = absurd (none-some n e)
week_by (Some d) n e = omega (arith, same_Some (d % 7) n e)

last_by : (front : Option (List ℕ)) (n : ℕ) → option_and_then spelled_weekday front ≡ Some n → n < 7
last_by None n e = absurd (none-some n e)
last_by (Some text) n e = week_by (number_between Weekdays 0 7 text) n e

last_bounds : (text : List ℕ) (n : ℕ) → last_weekday_of text ≡ Some n → n < 7
unfolding last_weekday_of
last_bounds text n e = last_by (before_letter 108 text) n e

nth_by : (d k : Option ℕ) (n : ℕ) → ((m : ℕ) → d ≡ Some m → m < 7) → ((m : ℕ) → k ≡ Some m → m ≤ 5) → option_and_then (λ d. option_map (λ k. 7 * (k - 1) + d) k) d ≡ Some n → n < 35
nth_by None k n days times e = absurd (none-some n e)
nth_by (Some d) None n days times e = absurd (none-some n e)
nth_by (Some d) (Some k) n days times e = omega (arith, same_Some (7 * (k - 1) + d) n e, days d refl, times k refl)

nth_bounds : (text : List ℕ) (n : ℕ) → nth_weekday_of text ≡ Some n → n < 35
unfolding nth_weekday_of
nth_bounds text n e =
    nth_by (spelled_weekday (before_byte 35 text)) (number_between Numbers 1 5 (behind_byte 35 text)) n (λ m is. week_by (number_between Weekdays 0 7 (before_byte 35 text)) m is) (λ m is. (number_bounds Numbers 1 5 m (behind_byte 35 text) is).1) e

-- ---- sets of named days

any_number : (number : List ℕ → Option ℕ) (items : List (List ℕ)) (k : ℕ) (P : Type 0) → ((item : List ℕ) → number item ≡ Some k → P) → list_any (λ item. is_number k (number item)) items ≡ true → P
any_number number [] k P f e = absurd (false≢true e)
any_number number (item ∷ items) k P f e =
    one_of (is_number k (number item)) (list_any (λ item. is_number k (number item)) items) P e (λ yes. f item (number_is k (number item) yes)) (λ yes. any_number number items k P f yes)

named_between : (number : List ℕ → Option ℕ) (text : List ℕ) (set : FiniteSet) (low end : ℕ) → ((item : List ℕ) (n : ℕ) → number item ≡ Some n → (low ≤ n) × (n < end)) → AreNamed set (an_item_is number text) → LieBetween set low end
unfolding an_item_is
named_between number text set low end bounds named = λ k is. any_number number (items_of text) k ((low ≤ k) × (k < end)) (λ item e. bounds item k e) (named k ∙ is)

first_is : (number : List ℕ → Option ℕ) (text item : List ℕ) (items : List (List ℕ)) (n : ℕ) → items_of text ≡ item ∷ items → number item ≡ Some n → an_item_is number text n ≡ true
unfolding an_item_is
first_is number text item items n e is =
    let rest = list_any (λ item. is_number n (number item)) items in
    ap (list_any (λ item. is_number n (number item))) e ∙ (ap (λ o. is_number n o || rest) is ∙ ap (λ t. t || rest) (eq-eqb n n refl))

named_member : (number : List ℕ → Option ℕ) (text item : List ℕ) (items : List (List ℕ)) (set : FiniteSet) (n : ℕ) → items_of text ≡ item ∷ items → number item ≡ Some n
    → AreNamed set (an_item_is number text) → Member set
named_member number text item items set n e is named = (n, sym (named n) ∙ first_is number text item items n e is)

some_is : (o : Option ℕ) → is_some o ≡ true → (n : ℕ) × (o ≡ Some n)
some_is None e = absurd (false≢true e)
some_is (Some n) e = (n, refl)

-- ---- the field of days

abbrev SomeDay : FieldSets → Type 0
SomeDay s = Member s.days ⊎ (Member s.month_days.from_end ⊎ ((s.month_days.last_workday ≡ true) ⊎ Member s.month_days.nearest_workdays))

day_named : (s : FieldSets) (day weekday item : List ℕ) (items : List (List ℕ)) → items_of day ≡ item ∷ items → AreNamedDays day weekday s.month_days → names_by_place item ≡ true → SomeDay s
unfolding names_by_place
day_named s day weekday item items at named e =
    one_of (is_some (from_end_of item)) (is_last_workday_text item || is_some (nearest_workday_of item)) (SomeDay s) e
    (λ yes.
    let found = some_is (from_end_of item) yes in
    inr (inl (named_member from_end_of day item items s.month_days.from_end found.0 at found.1 named.from_end)))
    (λ others.
    one_of (is_last_workday_text item) (is_some (nearest_workday_of item)) (SomeDay s) others
    (λ yes. inr (inr (inl (sym named.last_workday ∙ first_is last_workday_of day item items 0 at (ap (λ t. if t then Some 0 else None) yes)))))
    (λ yes.
    let found = some_is (nearest_workday_of item) yes in
    inr (inr (inr (named_member nearest_workday_of day item items s.month_days.nearest_workdays found.0 at found.1 named.nearest_workdays)))))

-- the items that name no days, from the first on
abbrev others_of : (List ℕ → Bool) → List (List ℕ) → List (List ℕ)
others_of named items = filter (λ item. not (named item)) items

other_first : (named : List ℕ → Bool) (text item : List ℕ) (items : List (List ℕ)) → items_of text ≡ item ∷ items → named item ≡ false → others_of named (items_of text) ≡ item ∷ others_of named items
other_first named text item items at e = ap (others_of named) at ∙ ap (λ t. cond (not t) (item ∷ others_of named items) (others_of named items)) e

days_between : (day : List ℕ) (set : FiniteSet) → AreListed set (days_list day) → LieBetween set 1 32
unfolding days_list
days_between day set all = λ k is. let bounds = items_bounds Numbers 1 31 (others_of names_by_place (items_of day)) k (omega arith) (all k ∙ ap Some is) in (bounds.0, omega (arith, bounds.1))

day_listed : (day item : List ℕ) (items : List (List ℕ)) (set : FiniteSet) → items_of day ≡ item ∷ items → names_by_place item ≡ false → AreListed set (days_list day) → Member set
unfolding days_list
day_listed day item items set at e all =
    let first = first_listed Numbers 1 31 item (others_of names_by_place items) (has set) (omega arith) (λ k. sym (ap (λ them. items_list Numbers 1 31 them k) (other_first names_by_place day item items at e)) ∙ all k) in
    (first.0, first.2)

a_day : (s : FieldSets) (day weekday : List ℕ) → AreListed s.days (days_list day) → AreNamedDays day weekday s.month_days → SomeDay s
a_day s day weekday listed named =
    let some = some_items day in
    elim (cases_Bool (names_by_place some.0)) [
      | inl names ↦ day_named s day weekday some.0 some.1 some.2 named names
      | inr lists ↦ inl (day_listed day some.0 some.1 s.days some.2 lists listed)
    ]

-- ---- the field of weekdays

abbrev SomeWeekday : FieldSets → Type 0
SomeWeekday s = Member s.weekdays ⊎ (Member s.month_days.last_weekdays ⊎ Member s.month_days.nth_weekdays)

weekday_named : (s : FieldSets) (day weekday item : List ℕ) (items : List (List ℕ)) → items_of weekday ≡ item ∷ items → AreNamedDays day weekday s.month_days → names_by_weekday item ≡ true → SomeWeekday s
unfolding names_by_weekday
weekday_named s day weekday item items at named e =
    one_of (is_some (last_weekday_of item)) (is_some (nth_weekday_of item)) (SomeWeekday s) e
    (λ yes.
    let found = some_is (last_weekday_of item) yes in
    inr (inl (named_member last_weekday_of weekday item items s.month_days.last_weekdays found.0 at found.1 named.last_weekdays)))
    (λ yes.
    let found = some_is (nth_weekday_of item) yes in
    inr (inr (named_member nth_weekday_of weekday item items s.month_days.nth_weekdays found.0 at found.1 named.nth_weekdays)))

abbrev week : ℕ → Option Bool → Option Bool → Option Bool
week k here seven = option_and_then (λ here. option_map (λ seven. nat_lt k 7 && (here || (k == 0 && seven))) seven) here

week_read : (here seven : Option Bool) (k : ℕ) (b : Bool) → week k here seven ≡ Some b → (h : Bool) × (s : Bool) × (here ≡ Some h) × (seven ≡ Some s) × ((nat_lt k 7 && (h || (k == 0 && s))) ≡ b)
week_read None seven k b e = absurd (none-some b e)
week_read (Some h) None k b e = absurd (none-some b e)
week_read (Some h) (Some s) k b e = (h, s, refl, refl, same_Some (nat_lt k 7 && (h || (k == 0 && s))) b e)

abbrev in_week : List ℕ → ℕ → Option Bool
in_week text k = items_list Weekdays 0 7 (others_of names_by_weekday (items_of text)) k

weekdays_between : (text : List ℕ) (set : FiniteSet) → AreListed set (weekdays_list text) → LieBetween set 0 7
unfolding weekdays_list
weekdays_between text set all = λ k is.
    let found = week_read (in_week text k) (in_week text 7) k true (all k ∙ ap Some is) in
    (omega arith, ltb-true k 7 (and_parts (nat_lt k 7) (found.0 || (k == 0 && found.1)) found.4).0)

-- a number of the field stands for a day of the week
listed_weekday : (text : List ℕ) (set : FiniteSet) (n : ℕ) → AreListed set (weekdays_list text) → n < 7 → in_week text n ≡ Some true → has set n ≡ true
unfolding weekdays_list
listed_weekday text set n all less is =
    let found = week_read (in_week text n) (in_week text 7) n (has set n) (all n) in
    let here = same_Some found.0 true (sym found.2 ∙ is) in
    sym found.4 ∙ (ap (λ t. t && (found.0 || (n == 0 && found.1))) (lt-ltb n 7 less) ∙ ap (λ h. h || (n == 0 && found.1)) here)

listed_seven : (text : List ℕ) (set : FiniteSet) → AreListed set (weekdays_list text) → in_week text 7 ≡ Some true → has set 0 ≡ true
unfolding weekdays_list
listed_seven text set all is =
    let found = week_read (in_week text 0) (in_week text 7) 0 (has set 0) (all 0) in
    let seven = same_Some found.1 true (sym found.3 ∙ is) in
    sym found.4 ∙ (ap (λ s. found.0 || s) seven ∙ or-true found.0)

some_answered : (o : Option Bool) (b : Bool) → o ≡ Some b → o ≡ Some (given o)
some_answered None b e = absurd (none-some b e)
some_answered (Some c) b e = refl

in_week_read : (text : List ℕ) (set : FiniteSet) (k : ℕ) → AreListed set (weekdays_list text) → in_week text k ≡ Some (given (in_week text k))
unfolding weekdays_list
in_week_read text set k all =
    let found = week_read (in_week text k) (in_week text 7) k (has set k) (all k) in
    some_answered (in_week text k) found.0 found.2

weekday_listed : (text item : List ℕ) (items : List (List ℕ)) (set : FiniteSet) → items_of text ≡ item ∷ items → names_by_weekday item ≡ false → AreListed set (weekdays_list text) → Member set
weekday_listed text item items set at e all =
    let others = other_first names_by_weekday text item items at e in
    let first = first_listed Weekdays 0 7 item (others_of names_by_weekday items) (λ k. given (in_week text k)) (omega arith)
    (λ k. sym (ap (λ them. items_list Weekdays 0 7 them k) others) ∙ in_week_read text set k all) in
    let n = first.0 in
    let is = in_week_read text set n all ∙ ap Some first.2 in
    elim (cases_lt n 7) [
      | inl less ↦ (n, listed_weekday text set n all less is)
      | inr seven ↦ (0, listed_seven text set all (ap (in_week text) (omega (arith, seven, first.1)) ∙ is))
    ]

a_weekday : (s : FieldSets) (day weekday : List ℕ) → AreListed s.weekdays (weekdays_list weekday) → AreNamedDays day weekday s.month_days → SomeWeekday s
a_weekday s day weekday listed named =
    let some = some_items weekday in
    elim (cases_Bool (names_by_weekday some.0)) [
      | inl names ↦ weekday_named s day weekday some.0 some.1 some.2 named names
      | inr lists ↦ inl (weekday_listed weekday some.0 some.1 s.weekdays some.2 lists listed)
    ]

-- ---- texts that begin with `*`

star_text : (text : List ℕ) → begins_with_star text ≡ true → (rest : List ℕ) × (text ≡ 42 ∷ rest)
unfolding begins_with_star
star_text [] e = absurd (false≢true e)
star_text (x ∷ rest) e = (rest, ap (λ y. y ∷ rest) (eqb-true x 42 e))

star_items : (text : List ℕ) → begins_with_star text ≡ true → (item : List ℕ) × (items : List (List ℕ)) × (items_of text ≡ (42 ∷ item) ∷ items)
star_items text e =
    let found = star_text text e in
    let some = some_items found.0 in
    (some.0, some.1, ap items_of found.1 ∙ (slice_split-cons_no (λ x. x == 44) 42 found.0 refl ∙ ap (onto_first 42) some.2))

none_by : (b : Bool) (o : Option ℕ) → o ≡ None → (if b then o else None) ≡ None
none_by true o e = e
none_by false o e = refl

short_star : (text : List ℕ) → digits_of 2 (42 ∷ text) ≡ None
unfolding digits_of natural_of
short_star text = none_by (nat_le (length (42 ∷ text)) 2) (natural_of (42 ∷ text)) refl

name_star : (names : Names) (text : List ℕ) → number_of_name names (42 ∷ text) ≡ None
unfolding number_of_name month_of_letters weekday_of_letters
name_star Numbers text = refl
name_star Months text = refl
name_star Weekdays text = refl

number_star : (names : Names) (low high : ℕ) (text : List ℕ) → number_between names low high (42 ∷ text) ≡ None
unfolding spelled_number
number_star names low high text = number_none names low high (42 ∷ text) (ap₂ option_or (short_star text) (name_star names text))

-- what stands before another sign begins with `*`, too
abbrev place : ℕ → List ℕ → ℕ
place sign text = position_or_len (λ x. x == sign) text

before_dash : (text : List ℕ) → before_byte 45 (42 ∷ text) ≡ 42 ∷ take (place 45 text) text
before_dash text = let more : 1 + place 45 text ≡ suc (place 45 text) = omega arith in ap (λ n. take n (42 ∷ text)) more

before_slash : (text : List ℕ) → before_byte 47 (42 ∷ text) ≡ 42 ∷ take (place 47 text) text
before_slash text = let more : 1 + place 47 text ≡ suc (place 47 text) = omega arith in ap (λ n. take n (42 ∷ text)) more

before_sharp : (text : List ℕ) → before_byte 35 (42 ∷ text) ≡ 42 ∷ take (place 35 text) text
before_sharp text = let more : 1 + place 35 text ≡ suc (place 35 text) = omega arith in ap (λ n. take n (42 ∷ text)) more

range_star : (names : Names) (low high : ℕ) (text : List ℕ) (span : ℕ × ℕ) → range_of names low high (42 ∷ text) ≡ Some span → span.0 ≡ low
unfolding range_of
range_star names low high [] span e = sym (ap (λ (s : ℕ × ℕ). s.0) (same_Some (low, high) span e))
range_star names low high (y ∷ text) span e =
    let none = ap (number_between names low high) (before_dash (y ∷ text)) ∙ number_star names low high (take (place 45 (y ∷ text)) (y ∷ text)) in
    absurd (none-some span (sym (ap (option_and_then (range_to names high (behind_byte 45 (42 ∷ y ∷ text)))) none) ∙ e))

item_star : (names : Names) (low high k : ℕ) (text : List ℕ) (b : Bool) → low ≤ high → item_lists names low high (42 ∷ text) k ≡ Some b → item_lists names low high (42 ∷ text) low ≡ Some true
item_star names low high k text b le e =
    let found = spans names low high (42 ∷ text) k b le e in
    let first : found.0.0 ≡ low = elim found.5 [
      | inl range ↦ range_star names low high (take (place 47 text) text) found.0 (sym (ap (range_of names low high) (before_slash text)) ∙ range)
      | inr span ↦ range_star names low high text found.0 (sym (span_range names low high (42 ∷ text) (number_star names low high text)) ∙ span)
    ] in
    ap (item_lists names low high (42 ∷ text)) (sym first) ∙ item_first names low high (42 ∷ text) found

-- no name of a day does
no_front : (names : Names) (low high n : ℕ) (text : List ℕ) (b : Bool) → option_and_then (number_between names low high) (if b then Some (take n (42 ∷ text)) else None) ≡ None
no_front names low high n text false = refl
no_front names low high zero text true = number_between-nothing names low high
no_front names low high (suc n) text true = number_star names low high (take n text)

no_week : (n : ℕ) (text : List ℕ) (b : Bool) → option_and_then spelled_weekday (if b then Some (take n (42 ∷ text)) else None) ≡ None
no_week n text false = refl
no_week zero text true = ap (option_map (λ d. d % 7)) (number_between-nothing Weekdays 0 7)
no_week (suc n) text true = ap (option_map (λ d. d % 7)) (number_star Weekdays 0 7 (take n text))

names_by_place-star : (text : List ℕ) → names_by_place (42 ∷ text) ≡ false
unfolding names_by_place from_end_of is_last_workday_text nearest_workday_of
names_by_place-star text =
    let n = length (42 ∷ text) - 1 in
    ap is_some (no_front Numbers 1 31 n text (to_ascii_lowercase (slice_index (42 ∷ text) n) == 119))

last-star : (text : List ℕ) → last_weekday_of (42 ∷ text) ≡ None
unfolding last_weekday_of
last-star text = let n = length (42 ∷ text) - 1 in no_week n text (to_ascii_lowercase (slice_index (42 ∷ text) n) == 108)

nth-star : (text : List ℕ) → nth_weekday_of (42 ∷ text) ≡ None
unfolding nth_weekday_of
nth-star text =
    let none = ap (option_map (λ d. d % 7)) (ap (number_between Weekdays 0 7) (before_sharp text) ∙ number_star Weekdays 0 7 (take (place 35 text) text)) in
    ap (option_and_then (λ d. option_map (λ k. 7 * (k - 1) + d) (number_between Numbers 1 5 (behind_byte 35 (42 ∷ text))))) none

names_by_weekday-star : (text : List ℕ) → names_by_weekday (42 ∷ text) ≡ false
unfolding names_by_weekday
names_by_weekday-star text = ap₂ (λ a b. is_some a || is_some b) (last-star text) (nth-star text)

-- so a field that begins with it lists the first of its numbers
day_star : (day : List ℕ) (set : FiniteSet) → begins_with_star day ≡ true → AreListed set (days_list day) → has set 1 ≡ true
unfolding days_list
day_star day set e all =
    let found = star_items day e in
    let item = found.0 in
    let others = other_first names_by_place day (42 ∷ item) found.1 found.2 (names_by_place-star item) in
    let first = item_of_items Numbers 1 31 1 (42 ∷ item) (others_of names_by_place found.1) (has set 1) in
    let read = both_first Numbers 1 31 1 (42 ∷ item) (others_of names_by_place found.1) (has set 1) (sym (ap (λ them. items_list Numbers 1 31 them 1) others) ∙ all 1) in
    first (sym (ap (λ them. items_list Numbers 1 31 them 1) others) ∙ all 1) (item_star Numbers 1 31 1 item read.0 (omega arith) read.1)

weekday_star : (text : List ℕ) (set : FiniteSet) → begins_with_star text ≡ true → AreListed set (weekdays_list text) → has set 0 ≡ true
weekday_star text set e all =
    let found = star_items text e in
    let item = found.0 in
    let others = other_first names_by_weekday text (42 ∷ item) found.1 found.2 (names_by_weekday-star item) in
    let whole = sym (ap (λ them. items_list Weekdays 0 7 them 0) others) ∙ in_week_read text set 0 all in
    let read = both_first Weekdays 0 7 0 (42 ∷ item) (others_of names_by_weekday found.1) (given (in_week text 0)) whole in
    let first = item_of_items Weekdays 0 7 0 (42 ∷ item) (others_of names_by_weekday found.1) (given (in_week text 0)) whole (item_star Weekdays 0 7 0 item read.0 (omega arith) read.1) in
    listed_weekday text set 0 all (omega arith) (in_week_read text set 0 all ∙ ap Some first)

one_starred : (d w : Bool) (P : Type 0) → (not d && not w) ≡ false → (d ≡ true → P) → (w ≡ true → P) → P
one_starred true w P e f g = f refl
one_starred false true P e f g = g refl
one_starred false false P e f g = absurd (false≢true (sym e))

starred_told : (text : List ℕ) (s : FieldSets) → IsScheduleText text s → s.either ≡ false → (has s.days 1 || has s.weekdays 0) ≡ true
starred_told text s is e =
    one_starred (begins_with_star is.day) (begins_with_star is.weekday) ((has s.days 1 || has s.weekdays 0) ≡ true) (is.either ∙ e)
    (λ day. ap (λ t. t || has s.weekdays 0) (day_star is.day s.days day is.days))
    (λ weekday. ap (λ t. has s.days 1 || t) (weekday_star is.weekday s.weekdays weekday is.weekdays) ∙ or-true (has s.days 1))

-- nor does a field of minutes or of hours that begins with it lack its first number
time_star : (high : ℕ) (text : List ℕ) (set : FiniteSet) → begins_with_star text ≡ true → AreListed set (field_lists Numbers 0 high text) → has set 0 ≡ true
unfolding field_lists
time_star high text set e all =
    let found = star_items text e in
    let item = found.0 in
    let whole = sym (ap (λ them. items_list Numbers 0 high them 0) found.2) ∙ all 0 in
    let read = both_first Numbers 0 high 0 (42 ∷ item) found.1 (has set 0) whole in
    item_of_items Numbers 0 high 0 (42 ∷ item) found.1 (has set 0) whole (item_star Numbers 0 high 0 item read.0 (omega arith) read.1)

timed_told : (text : List ℕ) (s : FieldSets) → IsScheduleText text s → s.follows_clock ≡ true → (has s.hours 0 || has s.minutes 0) ≡ true
timed_told text s is e =
    one_of (begins_with_star is.minute) (begins_with_star is.hour) ((has s.hours 0 || has s.minutes 0) ≡ true) (is.follows_clock ∙ e)
    (λ minute. ap (λ t. has s.hours 0 || t) (time_star 59 is.minute s.minutes minute is.minutes) ∙ or-true (has s.hours 0))
    (λ hour. ap (λ t. t || has s.minutes 0) (time_star 23 is.hour s.hours hour is.hours))

pub schedule_told : (text : List ℕ) (s : FieldSets) → IsScheduleText text s → IsWritable s
schedule_told text s is =
    let minute = field_told Numbers 0 59 is.minute s.minutes (omega arith) is.minutes in
    let hour = field_told Numbers 0 23 is.hour s.hours (omega arith) is.hours in
    let month = field_told Months 1 12 is.month s.months (omega arith) is.months in
    let named = is.month_days in
    record {
      minutes = minute.0;
      hours = hour.0;
      days = days_between is.day s.days is.days;
      months = month.0;
      weekdays = weekdays_between is.weekday s.weekdays is.weekdays;
      from_end = named_between from_end_of is.day s.month_days.from_end 0 31 (λ item n e. (omega arith, omega (arith, from_end_bounds item n e))) named.from_end;
      nearest_workdays = named_between nearest_workday_of is.day s.month_days.nearest_workdays 1 32 (λ item n e. let b = nearest_bounds item n e in (b.0, omega (arith, b.1))) named.nearest_workdays;
      last_weekdays = named_between last_weekday_of is.weekday s.month_days.last_weekdays 0 7 (λ item n e. (omega arith, last_bounds item n e)) named.last_weekdays;
      nth_weekdays = named_between nth_weekday_of is.weekday s.month_days.nth_weekdays 0 35 (λ item n e. (omega arith, nth_bounds item n e)) named.nth_weekdays;
      a_minute = minute.1;
      an_hour = hour.1;
      a_month = month.1;
      a_day = a_day s is.day is.weekday is.days named;
      a_weekday = a_weekday s is.day is.weekday is.weekdays named;
      starred = starred_told text s is;
      timed = timed_told text s is;
    }
