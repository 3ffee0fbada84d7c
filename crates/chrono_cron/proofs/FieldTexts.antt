-- The numbers, ranges and items of a field's text, as they are read.
use Rattle.std.proofs.Common.{◌≡◌, ◌==◌, ◌+◌, ◌<◌, ◌≤◌, ◌&&◌, ◌||◌, ℕ, Bool, true, false, List, [], ◌∷◌, length, Option, Some, None, refl, sym, ap, ◌∙◌, arith, inl, inr}
use Rattle.std.specs.Prelude.{nat_le, if◌then◌else◌}
use Rattle.std.specs.Option.{option_map, option_and_then, option_or}
use Rattle.std.specs.List.{position_or_len}
use Rattle.std.proofs.lemmas.Bool.{cases_lt, false≢true, le-leb, lt-leb, lt-ltb}
use Rattle.std.proofs.lemmas.Option.{none-some, same_Some}
use Rattle.std.proofs.lemmas.List.{drop_all}
use Rattle.chrono_text.specs.Lists.{pieces, stands_in}
use Rattle.chrono_text.specs.Numbers.{above_zero, digits_of, if_within, natural_of}
use Rattle.chrono_sets.specs.FiniteSets.{FiniteSet, has, no_numbers}
use Rattle.chrono_sets.specs.Steps.{is_by_steps}
use Rattle.chrono_sets.proofs.Members.{has-no_numbers}
use Rattle.chrono_cron.specs.declared.text.number_names.Names.{Names}
use Rattle.chrono_cron.specs.declared.text.number_names.Names.TheVariants.{Numbers, Months, Weekdays}
use Rattle.chrono_datetime.specs.Names.{month_of_letters, weekday_of_letters}
use Rattle.chrono_cron.specs.FieldTexts.{before_byte, behind_byte, field_lists, is_star, item_lists, items_list, lists_by_steps, number_between, number_of_name, onto, range_of, range_to, item_span, spelled_number, step_of}
use Rattle.chrono_units.proofs.SetMembers.{or-or_false}

-- a number in digits, or a name
pub spelled_digits : (names : Names) (text : List ℕ) (n : ℕ) → digits_of 2 text ≡ Some n → spelled_number names text ≡ Some n
unfolding spelled_number
spelled_digits names text n e = ap (λ o. option_or o (number_of_name names text)) e

pub spelled_name : (names : Names) (text : List ℕ) → digits_of 2 text ≡ None → spelled_number names text ≡ number_of_name names text
unfolding spelled_number
spelled_name names text e = ap (λ o. option_or o (number_of_name names text)) e

-- a number in the field's range, or past either end
pub number_none : (names : Names) (low high : ℕ) (text : List ℕ) → spelled_number names text ≡ None → number_between names low high text ≡ None
unfolding number_between
number_none names low high text e = ap (option_and_then (if_within low high)) e

abbrev tested : ℕ → Bool → Bool → Option ℕ
tested n a b = if a && b then Some n else None

pub number_some : (names : Names) (low high : ℕ) (text : List ℕ) (n : ℕ) → spelled_number names text ≡ Some n → low ≤ n → n ≤ high → number_between names low high text ≡ Some n
unfolding number_between
number_some names low high text n e from to =
    ap (option_and_then (if_within low high)) e ∙ ap (λ a. tested n a (nat_le n high)) (le-leb low n from) ∙ ap (tested n true) (le-leb n high to)

pub number_low : (names : Names) (low high : ℕ) (text : List ℕ) (n : ℕ) → spelled_number names text ≡ Some n → n < low → number_between names low high text ≡ None
unfolding number_between
number_low names low high text n e less = ap (option_and_then (if_within low high)) e ∙ ap (λ a. tested n a (nat_le n high)) (lt-leb low n less)

pub number_high : (names : Names) (low high : ℕ) (text : List ℕ) (n : ℕ) → spelled_number names text ≡ Some n → low ≤ n → high < n → number_between names low high text ≡ None
unfolding number_between
number_high names low high text n e from more =
    ap (option_and_then (if_within low high)) e ∙ ap (λ a. tested n a (nat_le n high)) (le-leb low n from) ∙ ap (tested n true) (lt-leb n high more)

pub number_between-nothing : (names : Names) (low high : ℕ) → number_between names low high [] ≡ None
unfolding number_between spelled_number digits_of number_of_name month_of_letters weekday_of_letters natural_of
number_between-nothing Numbers low high = refl
number_between-nothing Months low high = refl
number_between-nothing Weekdays low high = refl

-- both ends of a range
pub range_star : (names : Names) (low high : ℕ) (text : List ℕ) → is_star text ≡ true → range_of names low high text ≡ Some (low, high)
unfolding range_of
range_star names low high text e =
    ap (λ t. if t then Some (low, high) else option_and_then (range_to names high (behind_byte 45 text)) (number_between names low high (before_byte 45 text))) e

range_ends : (names : Names) (low high : ℕ) (text : List ℕ) → is_star text ≡ false
    → range_of names low high text ≡ option_and_then (range_to names high (behind_byte 45 text)) (number_between names low high (before_byte 45 text))
unfolding range_of
range_ends names low high text e =
    ap (λ t. if t then Some (low, high) else option_and_then (range_to names high (behind_byte 45 text)) (number_between names low high (before_byte 45 text))) e

-- nothing stands behind a byte that does not stand in the text
pub nothing_behind : (sign : ℕ) (text : List ℕ) → stands_in sign text ≡ false → behind_byte sign text ≡ []
nothing_behind sign text none = elim (cases_lt (position_or_len (λ x. x == sign) text) (length text)) [
  | inl less ↦ absurd (false≢true (sym none ∙ lt-ltb (position_or_len (λ x. x == sign) text) (length text) less))
  | inr end ↦ drop_all (position_or_len (λ x. x == sign) text + 1) text (omega (arith, end))
]

no_last : (names : Names) (high : ℕ) (text : List ℕ) (first : Option ℕ) → text ≡ [] → option_and_then (range_to names high text) first ≡ None
no_last names high text None e = refl
no_last names high text (Some first) e = ap (λ t. option_map (λ last. (first, last)) (number_between names first high t)) e ∙ ap (option_map (λ last. (first, last))) (number_between-nothing names first high)

pub range_alone : (names : Names) (low high : ℕ) (text : List ℕ) → is_star text ≡ false → stands_in 45 text ≡ false → range_of names low high text ≡ None
range_alone names low high text e none =
    range_ends names low high text e ∙ no_last names high (behind_byte 45 text) (number_between names low high (before_byte 45 text)) (nothing_behind 45 text none)

pub range_first : (names : Names) (low high : ℕ) (text : List ℕ) → is_star text ≡ false → number_between names low high (before_byte 45 text) ≡ None → range_of names low high text ≡ None
range_first names low high text e none = range_ends names low high text e ∙ ap (option_and_then (range_to names high (behind_byte 45 text))) none

pub range_last : (names : Names) (low high first : ℕ) (text : List ℕ) (last : Option ℕ) → is_star text ≡ false → number_between names low high (before_byte 45 text) ≡ Some first
    → number_between names first high (behind_byte 45 text) ≡ last → range_of names low high text ≡ option_map (λ n. (first, n)) last
range_last names low high first text last e is ends =
    range_ends names low high text e ∙ ap (option_and_then (range_to names high (behind_byte 45 text))) is ∙ ap (option_map (λ n. (first, n))) ends

pub span_number : (names : Names) (low high n : ℕ) (text : List ℕ) → number_between names low high text ≡ Some n → item_span names low high text ≡ Some (n, n)
unfolding item_span
span_number names low high n text e = ap (λ o. option_or (option_map (λ n. (n, n)) o) (range_of names low high text)) e

pub span_range : (names : Names) (low high : ℕ) (text : List ℕ) → number_between names low high text ≡ None → item_span names low high text ≡ range_of names low high text
unfolding item_span
span_range names low high text e = ap (λ o. option_or (option_map (λ n. (n, n)) o) (range_of names low high text)) e

-- a step is above 0
above_zero_some : (o : Option ℕ) (n : ℕ) → option_and_then above_zero o ≡ Some n → 0 < n
above_zero_some None n e = absurd (none-some n e)
above_zero_some (Some m) n e = elim (cases_lt 0 m) [
  | inl some ↦ omega (arith, some, same_Some m n (sym (ap (λ t. if t then Some m else None) (le-leb 1 m some)) ∙ e))
  | inr none ↦ absurd (none-some n (sym (ap (λ t. if t then Some m else None) (lt-leb 1 m (omega (arith, none)))) ∙ e))
]

pub step_some : (text : List ℕ) (n : ℕ) → step_of text ≡ Some n → 0 < n
unfolding step_of
step_some text n = above_zero_some (digits_of 3 text) n

-- an item without steps, and one by steps
abbrev by_ones : ℕ → ℕ × ℕ → Bool
by_ones k span = is_by_steps span.0 span.1 1 k

abbrev item_tested : Names → ℕ → ℕ → List ℕ → ℕ → Bool → Option Bool
item_tested names low high text k t = if t then option_and_then (lists_by_steps (behind_byte 47 text) k) (range_of names low high (before_byte 47 text)) else option_map (by_ones k) (item_span names low high text)

pub item_plain : (names : Names) (low high : ℕ) (text : List ℕ) (k : ℕ) → stands_in 47 text ≡ false → item_lists names low high text k ≡ option_map (λ span. is_by_steps span.0 span.1 1 k) (item_span names low high text)
unfolding item_lists
item_plain names low high text k none = ap (item_tested names low high text k) none

pub item_stepped : (names : Names) (low high : ℕ) (text : List ℕ) (k : ℕ) (span : Option (ℕ × ℕ)) → stands_in 47 text ≡ true → range_of names low high (before_byte 47 text) ≡ span
    → item_lists names low high text k ≡ option_and_then (λ s. option_map (λ step. is_by_steps s.0 s.1 step k) (step_of (behind_byte 47 text))) span
unfolding item_lists
item_stepped names low high text k span some is = ap (item_tested names low high text k) some ∙ ap (option_and_then (lists_by_steps (behind_byte 47 text) k)) is

-- the items of a field, from the first on
abbrev pub put : Option Bool → Bool → Option Bool
put others here = onto here others

field_first : (names : Names) (low high : ℕ) (text item behind : List ℕ) (k : ℕ) → pieces 44 text ≡ item ∷ pieces 44 behind
    → field_lists names low high text k ≡ option_and_then (put (field_lists names low high behind k)) (item_lists names low high item k)
unfolding field_lists
field_first names low high text item behind k parts = ap (λ items. items_list names low high items k) parts

field_last : (names : Names) (low high : ℕ) (text : List ℕ) (k : ℕ) → pieces 44 text ≡ text ∷ [] → field_lists names low high text k ≡ option_and_then (put (Some false)) (item_lists names low high text k)
unfolding field_lists
field_last names low high text k one = ap (λ items. items_list names low high items k) one

-- what is listed so far stands before what the rest lists
pub onto-false : (others : Option Bool) → others ≡ onto false others
onto-false None = refl
onto-false (Some b) = refl

-- nothing is listed so far
pub nothing_so_far : (set : FiniteSet) (k : ℕ) (others : Option Bool) → set ≡ no_numbers → others ≡ onto (has set k) others
nothing_so_far set k others is = onto-false others ∙ ap (λ b. onto b others) (sym (ap (λ s. has s k) is ∙ has-no_numbers k))

pub onto-more : (so_far here : Bool) (others : Option Bool) → onto so_far (onto here others) ≡ onto (so_far || here) others
onto-more so_far here None = refl
onto-more true here (Some b) = refl
onto-more false here (Some b) = refl

pub more_items : (names : Names) (low high : ℕ) (text item behind : List ℕ) (k : ℕ) (so_far here : Bool) (all : Option Bool) → pieces 44 text ≡ item ∷ pieces 44 behind
    → all ≡ onto so_far (field_lists names low high text k) → item_lists names low high item k ≡ Some here → all ≡ onto (so_far || here) (field_lists names low high behind k)
more_items names low high text item behind k so_far here all parts e is =
    e ∙ ap (onto so_far) (field_first names low high text item behind k parts ∙ ap (option_and_then (put (field_lists names low high behind k))) is)
    ∙ onto-more so_far here (field_lists names low high behind k)

pub no_item : (names : Names) (low high : ℕ) (text item behind : List ℕ) (k : ℕ) (so_far : Bool) (all : Option Bool) → pieces 44 text ≡ item ∷ pieces 44 behind
    → all ≡ onto so_far (field_lists names low high text k) → item_lists names low high item k ≡ None → all ≡ None
no_item names low high text item behind k so_far all parts e is =
    e ∙ ap (onto so_far) (field_first names low high text item behind k parts ∙ ap (option_and_then (put (field_lists names low high behind k))) is)

pub last_item : (names : Names) (low high : ℕ) (text : List ℕ) (k : ℕ) (so_far here : Bool) (all : Option Bool) → pieces 44 text ≡ text ∷ []
    → all ≡ onto so_far (field_lists names low high text k) → item_lists names low high text k ≡ Some here → all ≡ Some (so_far || here)
last_item names low high text k so_far here all one e is =
    e ∙ ap (onto so_far) (field_last names low high text k one ∙ ap (option_and_then (put (Some false))) is) ∙ ap Some (or-or_false so_far here)

pub no_last_item : (names : Names) (low high : ℕ) (text : List ℕ) (k : ℕ) (so_far : Bool) (all : Option Bool) → pieces 44 text ≡ text ∷ []
    → all ≡ onto so_far (field_lists names low high text k) → item_lists names low high text k ≡ None → all ≡ None
no_last_item names low high text k so_far all one e is =
    e ∙ ap (onto so_far) (field_last names low high text k one ∙ ap (option_and_then (put (Some false))) is)
