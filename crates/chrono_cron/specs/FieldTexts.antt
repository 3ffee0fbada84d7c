-- The texts of a schedule's fields, and which numbers they list.
-- Sentences in quotation marks are those of crontab(5), the manual page of Vixie's cron 3.0pl1.
use Rattle.std.specs.Prelude.{◌≡◌, ℕ, ◌==◌, Bool, true, false, ◌||◌, if◌then◌else◌, List, [], ◌∷◌, Option, Some, None, codes, refl}
use Rattle.std.specs.Option.{option_map, option_and_then, option_or}
use Rattle.std.specs.List.{before_first, after_first}
use Rattle.std.specs.Str.{byte}
use Rattle.chrono_text.specs.Lists.{pieces, stands_in}
use Rattle.chrono_text.specs.Numbers.{above_zero, digits_of, if_within, natural_of}
use Rattle.chrono_sets.specs.Steps.{is_by_steps}
use Rattle.chrono_datetime.specs.Month.{number_from_month}
use Rattle.chrono_datetime.specs.Names.{month_of_letters, weekday_of_letters}
use Rattle.chrono_datetime.specs.Weekday.{days_from_sunday}
use Rattle.chrono_cron.specs.declared.text.number_names.Names.{Names}
use Rattle.chrono_cron.specs.declared.text.number_names.Names.TheVariants.{Numbers, Months, Weekdays}

-- what stands before the first byte `sign` of a text
abbrev pub before_byte : ℕ → List ℕ → List ℕ
before_byte sign text = before_first (λ x. x == sign) text

-- what stands behind the first byte `sign` of a text
abbrev pub behind_byte : ℕ → List ℕ → List ℕ
behind_byte sign text = after_first (λ x. x == sign) text

-- the number of a name: "Use the first three letters of the particular day or month (case doesn't matter)."
-- Months count from 1, weekdays from 0 for Sunday. The page takes no ranges and lists of names. To take them is our choice, and that of cronie's code
unfoldable pub number_of_name : Names → List ℕ → Option ℕ
number_of_name Numbers text = None
number_of_name Months text = option_map number_from_month (month_of_letters text)
number_of_name Weekdays text = option_map days_from_sunday (weekday_of_letters 3 text)

-- the number that digits write or that has the name
unfoldable pub spelled_number : Names → List ℕ → Option ℕ
spelled_number names text = option_or (digits_of 2 text) (number_of_name names text)

-- the step that one digit, two or three write: a number above 0. How many digits it has is our choice
unfoldable pub step_of : List ℕ → Option ℕ
step_of text = option_and_then above_zero (digits_of 3 text)

-- the number that a text spells, if it is from `low` to `high`
unfoldable pub number_between : Names → ℕ → ℕ → List ℕ → Option ℕ
number_between names low high text = option_and_then (if_within low high) (spelled_number names text)

-- `*` alone: "A field may be an asterisk (*), which always stands for "first-last"."
abbrev pub is_star : List ℕ → Bool
is_star [] = false
is_star (x ∷ []) = x == byte "*"
is_star (x ∷ y ∷ rest) = false

-- a range by its first number and by the text of its last, which is at least the first
abbrev pub range_to : Names → ℕ → List ℕ → ℕ → Option (ℕ × ℕ)
range_to names high text first = option_map (λ last. (first, last)) (number_between names first high text)

-- the first and the last number of a range: of `*` those of the field, of `a-b` a and b. "The specified range is inclusive." To refuse a b below a
-- is our choice. The name sun is 0 and never 7, so `sat-sun` runs backwards and is refused; write `6-7`
unfoldable pub range_of : Names → ℕ → ℕ → List ℕ → Option (ℕ × ℕ)
range_of names low high text =
    if is_star text then Some (low, high)
    else option_and_then (range_to names high (behind_byte (byte "-") text)) (number_between names low high (before_byte (byte "-") text))

-- those of a number alone, or of a range
unfoldable pub item_span : Names → ℕ → ℕ → List ℕ → Option (ℕ × ℕ)
item_span names low high text = option_or (option_map (λ n. (n, n)) (number_between names low high text)) (range_of names low high text)

-- whether a span by the steps that a text writes lists k; None if it writes none
abbrev pub lists_by_steps : List ℕ → ℕ → ℕ × ℕ → Option Bool
lists_by_steps text k span = option_map (λ step. is_by_steps span.0 span.1 step k) (step_of text)

-- whether an item lists k: a range by steps of 1 to 999 behind a `/`, or a number or a range by ones. None if the text is no item.
-- "Following a range with "/<number>" specifies skips of the number's value through the range." "Steps are also permitted after an asterisk"
unfoldable pub item_lists : Names → ℕ → ℕ → List ℕ → ℕ → Option Bool
item_lists names low high text k =
    if stands_in (byte "/") text then option_and_then (lists_by_steps (behind_byte (byte "/") text) k) (range_of names low high (before_byte (byte "/") text))
    else option_map (λ span. is_by_steps span.0 span.1 1 k) (item_span names low high text)

-- whether an item or one of the others lists k, by whether the item does; none if one of the others cannot be read
abbrev pub onto : Bool → Option Bool → Option Bool
onto here others = option_map (λ there. here || there) others

-- whether one of the items lists k; none if one of them cannot be read
abbrev pub items_list : Names → ℕ → ℕ → List (List ℕ) → ℕ → Option Bool
items_list names low high [] k = Some false
items_list names low high (item ∷ items) k = option_and_then (λ here. onto here (items_list names low high items k)) (item_lists names low high item k)

-- whether a field of the numbers from `low` to `high` lists k: it is items with commas between; none if the text is no field.
-- "A list is a set of numbers (or ranges) separated by commas."
unfoldable pub field_lists : Names → ℕ → ℕ → List ℕ → ℕ → Option Bool
field_lists names low high text k = items_list names low high (pieces (byte ",") text) k

-- known values: 9-14/2 lists 13 and not 14, `*` both ends of the field, */20 counts from the field's first number, and 5,7 lists 7 and not 6
field_lists-thirteen : field_lists Numbers 0 23 (codes "9-14/2") 13 ≡ Some true
unfolding field_lists item_lists step_of range_of number_between spelled_number digits_of number_of_name natural_of
field_lists-thirteen = refl

field_lists-fourteen : field_lists Numbers 0 23 (codes "9-14/2") 14 ≡ Some false
unfolding field_lists item_lists step_of range_of number_between spelled_number digits_of number_of_name natural_of
field_lists-fourteen = refl

field_lists-last : field_lists Numbers 1 31 (codes "*") 31 ≡ Some true
unfolding field_lists item_lists step_of item_span range_of number_between spelled_number digits_of number_of_name natural_of
field_lists-last = refl

field_lists-from_first : field_lists Numbers 1 31 (codes "*/20") 21 ≡ Some true
unfolding field_lists item_lists step_of range_of number_between spelled_number digits_of number_of_name natural_of
field_lists-from_first = refl

field_lists-seven : field_lists Numbers 0 59 (codes "5,07") 7 ≡ Some true
unfolding field_lists item_lists step_of item_span range_of number_between spelled_number digits_of number_of_name natural_of
field_lists-seven = refl

field_lists-six : field_lists Numbers 0 59 (codes "5,07") 6 ≡ Some false
unfolding field_lists item_lists step_of item_span range_of number_between spelled_number digits_of number_of_name natural_of
field_lists-six = refl

-- a range may end where it begins
field_lists-one_number : field_lists Numbers 0 59 (codes "5-5") 5 ≡ Some true
unfolding field_lists item_lists step_of item_span range_of number_between spelled_number digits_of number_of_name natural_of
field_lists-one_number = refl

-- steps past the range list its first number alone
field_lists-wide_steps : field_lists Numbers 0 59 (codes "*/120") 0 ≡ Some true
unfolding field_lists item_lists step_of range_of number_between spelled_number digits_of number_of_name natural_of
field_lists-wide_steps = refl

field_lists-wide_steps_next : field_lists Numbers 0 59 (codes "*/120") 20 ≡ Some false
unfolding field_lists item_lists step_of range_of number_between spelled_number digits_of number_of_name natural_of
field_lists-wide_steps_next = refl

-- no field: a number past the range, an empty item, a range backwards, a number alone by steps, steps of 0 or of four digits, and three digits
field_lists-long_steps : field_lists Numbers 0 59 (codes "*/1000") 0 ≡ None
unfolding field_lists item_lists step_of range_of number_between spelled_number digits_of number_of_name natural_of
field_lists-long_steps = refl

field_lists-sixty : field_lists Numbers 0 59 (codes "60") 5 ≡ None
unfolding field_lists item_lists step_of item_span range_of number_between spelled_number digits_of number_of_name natural_of
field_lists-sixty = refl

field_lists-empty_item : field_lists Numbers 0 59 (codes "5,") 5 ≡ None
unfolding field_lists item_lists step_of item_span range_of number_between spelled_number digits_of number_of_name natural_of
field_lists-empty_item = refl

field_lists-backwards : field_lists Numbers 0 59 (codes "5-3") 5 ≡ None
unfolding field_lists item_lists step_of item_span range_of number_between spelled_number digits_of number_of_name natural_of
field_lists-backwards = refl

field_lists-number_by_steps : field_lists Numbers 0 59 (codes "5/2") 5 ≡ None
unfolding field_lists item_lists step_of range_of number_between spelled_number digits_of number_of_name natural_of
field_lists-number_by_steps = refl

field_lists-steps_of_0 : field_lists Numbers 0 59 (codes "*/0") 0 ≡ None
unfolding field_lists item_lists step_of range_of number_between spelled_number digits_of number_of_name natural_of
field_lists-steps_of_0 = refl

field_lists-three_digits : field_lists Numbers 0 59 (codes "005") 5 ≡ None
unfolding field_lists item_lists step_of item_span range_of number_between spelled_number digits_of number_of_name natural_of
field_lists-three_digits = refl

field_lists-zeroth : field_lists Numbers 1 31 (codes "0") 1 ≡ None
unfolding field_lists item_lists step_of item_span range_of number_between spelled_number digits_of number_of_name natural_of
field_lists-zeroth = refl

-- no star: with a number behind it, and another sign; and `*` lists no number past the last
field_lists-star_and_number : field_lists Numbers 0 59 (codes "*5") 5 ≡ None
unfolding field_lists item_lists step_of item_span range_of number_between spelled_number digits_of number_of_name natural_of
field_lists-star_and_number = refl

field_lists-other_sign : field_lists Numbers 0 59 (codes "!") 5 ≡ None
unfolding field_lists item_lists step_of item_span range_of number_between spelled_number digits_of number_of_name natural_of
field_lists-other_sign = refl

field_lists-past_last : field_lists Numbers 1 31 (codes "*") 32 ≡ Some false
unfolding field_lists item_lists step_of item_span range_of number_between spelled_number digits_of number_of_name natural_of
field_lists-past_last = refl

-- names count from 1 for January, and from 0 for Sunday
number_of_name-june : number_of_name Months (codes "JUN") ≡ Some 6
unfolding number_of_name month_of_letters weekday_of_letters
number_of_name-june = refl

number_of_name-monday : number_of_name Weekdays (codes "mon") ≡ Some 1
unfolding number_of_name month_of_letters weekday_of_letters
number_of_name-monday = refl

number_of_name-none : number_of_name Numbers (codes "mon") ≡ None
unfolding number_of_name month_of_letters weekday_of_letters
number_of_name-none = refl
