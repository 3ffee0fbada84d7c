-- What is wrong with numbers, ranges and items, as it is found.
use Rattle.std.proofs.Common.{◌≡◌, ◌==◌, ◌+◌, ◌<◌, ◌≤◌, ◌&&◌, ℕ, Bool, true, false, List, [], ◌∷◌, length, take, drop, Option, Some, None, refl, ap, sym, ◌∙◌, arith, length-take, inl, inr}
use Rattle.std.specs.Prelude.{nat_lt, if◌then◌else◌, is_some}
use Rattle.std.specs.Option.{option_map}
use Rattle.std.specs.List.{position_or_len}
use Rattle.std.proofs.lemmas.Bool.{cases_lt, le-ltb, lt-ltb}
use Rattle.chrono_cron.specs.declared.text.schedule_error.ScheduleFault.{ScheduleFault}
use Rattle.chrono_cron.specs.declared.text.schedule_error.ScheduleFault.TheVariants.{StepOfNumber}
use Rattle.chrono_cron.specs.declared.text.schedule_error.ScheduleField.{ScheduleField}
use Rattle.chrono_cron.specs.declared.text.number_names.Names.{Names}
use Rattle.chrono_cron.specs.FieldTexts.{number_between, range_of}
use Rattle.chrono_cron.specs.PlacedWords.{placed, placed_items}
use Rattle.chrono_cron.specs.ScheduleErrors.{fault_in, fault_or, field_fault, first_fault, greatest_of_field, is_item, field_item_fault, last_fault, least_of_field, named_fault, names_of_field, field_number_fault, span_fault, step_fault}
use Rattle.chrono_cron.specs.ScheduleTexts.{items_of}
use Rattle.chrono_cron.proofs.DayItems.{items_first, items_last}

-- a number or a range, by whether a `-` stands in it and whether its first number can be read
abbrev span_tested : Names → ℕ → ℕ → List ℕ → ℕ → Bool → Bool → ℕ × ScheduleFault
span_tested names low high text p t r =
    if t && r then (length (take p text) + 1, last_fault names low high (drop (p + 1) text)) else (0, field_number_fault names (take p text))

span_at : (names : Names) (low high place : ℕ) (text : List ℕ) → position_or_len (λ x. x == 45) text ≡ place
    → span_fault names low high text ≡ span_tested names low high text place (nat_lt place (length text)) (is_some (number_between names low high (take place text)))
unfolding span_fault
span_at names low high place text at =
    ap (λ p. span_tested names low high text p (nat_lt p (length text)) (is_some (number_between names low high (take p text)))) at

pub span_alone : (names : Names) (low high place : ℕ) (text : List ℕ) → position_or_len (λ x. x == 45) text ≡ place → place ≡ length text
    → (0, field_number_fault names (take place text)) ≡ span_fault names low high text
span_alone names low high place text at end =
    sym (span_at names low high place text at
    ∙ ap (λ t. span_tested names low high text place t (is_some (number_between names low high (take place text)))) (le-ltb place (length text) (omega (arith, end))))

pub span_unread : (names : Names) (low high place : ℕ) (text : List ℕ) → position_or_len (λ x. x == 45) text ≡ place → place < length text
    → is_some (number_between names low high (take place text)) ≡ false → (0, field_number_fault names (take place text)) ≡ span_fault names low high text
span_unread names low high place text at less unread =
    sym (span_at names low high place text at
    ∙ ap (λ t. span_tested names low high text place t (is_some (number_between names low high (take place text)))) (lt-ltb place (length text) less)
    ∙ ap (span_tested names low high text place true) unread)

pub span_end : (names : Names) (low high place : ℕ) (text : List ℕ) → position_or_len (λ x. x == 45) text ≡ place → place < length text
    → is_some (number_between names low high (take place text)) ≡ true → (place + 1, last_fault names low high (drop (place + 1) text)) ≡ span_fault names low high text
span_end names low high place text at less was_read =
    sym (span_at names low high place text at
    ∙ ap (λ t. span_tested names low high text place t (is_some (number_between names low high (take place text)))) (lt-ltb place (length text) less)
    ∙ ap (span_tested names low high text place true) was_read
    ∙ ap (λ n. (n + 1, last_fault names low high (drop (place + 1) text))) (omega (arith, length-take place text, less)))

-- an item, by whether a `/` stands in it, and whether a range and a number stand before that
abbrev item_tested : Names → ℕ → ℕ → List ℕ → ℕ → Bool → Bool → Bool → ℕ × ScheduleFault
item_tested names low high text p t r n =
    if t && r then (length (take p text) + 1, step_fault (drop (p + 1) text))
    else if t && n then (length (take p text), StepOfNumber)
    else span_fault names low high (take p text)

item_at : (names : Names) (low high place : ℕ) (text : List ℕ) (t r n : Bool) → position_or_len (λ x. x == 47) text ≡ place → nat_lt place (length text) ≡ t
    → is_some (range_of names low high (take place text)) ≡ r → is_some (number_between names low high (take place text)) ≡ n
    → field_item_fault names low high text ≡ item_tested names low high text place t r n
unfolding field_item_fault
item_at names low high place text t r n at less range number =
    ap (λ p. item_tested names low high text p (nat_lt p (length text)) (is_some (range_of names low high (take p text))) (is_some (number_between names low high (take p text)))) at
    ∙ ap (λ b. item_tested names low high text place b (is_some (range_of names low high (take place text))) (is_some (number_between names low high (take place text)))) less
    ∙ ap (λ b. item_tested names low high text place t b (is_some (number_between names low high (take place text)))) range
    ∙ ap (item_tested names low high text place t r) number

pub item_alone : (names : Names) (low high place : ℕ) (text : List ℕ) → position_or_len (λ x. x == 47) text ≡ place → place ≡ length text
    → span_fault names low high (take place text) ≡ field_item_fault names low high text
item_alone names low high place text at end =
    sym (item_at names low high place text false _ _ at (le-ltb place (length text) (omega (arith, end))) refl refl)

pub item_stepped : (names : Names) (low high place : ℕ) (text : List ℕ) → position_or_len (λ x. x == 47) text ≡ place → place < length text
    → is_some (range_of names low high (take place text)) ≡ true → (place + 1, step_fault (drop (place + 1) text)) ≡ field_item_fault names low high text
item_stepped names low high place text at less range =
    sym (item_at names low high place text true true _ at (lt-ltb place (length text) less) range refl
    ∙ ap (λ n. (n + 1, step_fault (drop (place + 1) text))) (omega (arith, length-take place text, less)))

pub number_stepped : (names : Names) (low high place : ℕ) (text : List ℕ) → position_or_len (λ x. x == 47) text ≡ place → place < length text
    → is_some (range_of names low high (take place text)) ≡ false → is_some (number_between names low high (take place text)) ≡ true → (place, StepOfNumber) ≡ field_item_fault names low high text
number_stepped names low high place text at less range number =
    sym (item_at names low high place text true false true at (lt-ltb place (length text) less) range number
    ∙ ap (λ n. (n, StepOfNumber)) (omega (arith, length-take place text, less)))

pub nothing_stepped : (names : Names) (low high place : ℕ) (text : List ℕ) → position_or_len (λ x. x == 47) text ≡ place → place < length text
    → is_some (range_of names low high (take place text)) ≡ false → is_some (number_between names low high (take place text)) ≡ false
    → span_fault names low high (take place text) ≡ field_item_fault names low high text
nothing_stepped names low high place text at less range number =
    sym (item_at names low high place text true false false at (lt-ltb place (length text) less) range number)

-- the items of a field, of which there is always one
pub some_items : (text : List ℕ) → (first : List ℕ) × (more : List (List ℕ)) × (items_of text ≡ first ∷ more)
some_items text =
    let place = position_or_len (λ x. x == 44) text in
    elim (cases_lt place (length text)) [
      | inl less ↦ (take place text, items_of (drop (place + 1) text), items_first place text refl less)
      | inr end ↦ (text, [], items_last place text refl end)
    ]

passed : (field : ScheduleField) (item : ℕ × List ℕ) (at : ℕ) (items : List (List ℕ)) (first : List ℕ) (more : List (List ℕ)) → items ≡ first ∷ more → is_item field item.1 ≡ true
    → first_fault field (item ∷ placed at items) ≡ first_fault field (placed at items)
passed field item at items first more e is =
    ap (λ pieces. first_fault field (item ∷ placed at pieces)) e
    ∙ ap (λ t. if t then first_fault field (placed at (first ∷ more)) else fault_in field item) is
    ∙ ap (λ pieces. first_fault field (placed at pieces)) (sym e)

stopped : (field : ScheduleField) (item : ℕ × List ℕ) (at : ℕ) (items : List (List ℕ)) → is_item field item.1 ≡ false → first_fault field (item ∷ placed at items) ≡ fault_in field item
stopped field item at [] is = refl
stopped field item at (first ∷ more) is = ap (λ t. if t then first_fault field (placed at (first ∷ more)) else fault_in field item) is

pub field_passed : (field : ScheduleField) (at place : ℕ) (text : List ℕ) → position_or_len (λ x. x == 44) text ≡ place → place < length text → is_item field (take place text) ≡ true
    → field_fault field (at, text) ≡ field_fault field (at + (place + 1), drop (place + 1) text)
unfolding field_fault placed_items
field_passed field at place text e less is =
    let rest = items_of (drop (place + 1) text) in
    let some = some_items (drop (place + 1) text) in
    ap (λ pieces. first_fault field (placed at pieces)) (items_first place text e less)
    ∙ passed field (at, take place text) (at + length (take place text) + 1) rest some.0 some.1 some.2 is
    ∙ ap (λ p. first_fault field (placed p rest)) (omega (arith, length-take place text, less))

pub field_stopped : (field : ScheduleField) (at place : ℕ) (text : List ℕ) → position_or_len (λ x. x == 44) text ≡ place → place < length text → is_item field (take place text) ≡ false
    → fault_in field (at, take place text) ≡ field_fault field (at, text)
unfolding field_fault placed_items
field_stopped field at place text e less is =
    sym (ap (λ pieces. first_fault field (placed at pieces)) (items_first place text e less)
    ∙ stopped field (at, take place text) (at + length (take place text) + 1) (items_of (drop (place + 1) text)) is)

pub field_last : (field : ScheduleField) (at place : ℕ) (text : List ℕ) → position_or_len (λ x. x == 44) text ≡ place → length text ≤ place
    → fault_in field (at, text) ≡ field_fault field (at, text)
unfolding field_fault placed_items
field_last field at place text e end = sym (ap (λ pieces. first_fault field (placed at pieces)) (items_last place text e end))

-- whether something is read does not hang on what of it is asked for
pub some_mapped : (A : Type 0) (B : Type 0) (f : A → B) (o : Option A) → is_some (option_map f o) ≡ is_some o
some_mapped A B f None = refl
some_mapped A B f (Some a) = refl

-- what is wrong with an item of a field, by whether it names a day
pub fault_named : (field : ScheduleField) (place : ℕ) (item : List ℕ) (fault : ℕ × ScheduleFault) → named_fault field item ≡ Some fault → (place + fault.0, fault.1) ≡ fault_in field (place, item)
unfolding fault_in
fault_named field place item fault e =
    let listed = field_item_fault (names_of_field field) (least_of_field field) (greatest_of_field field) item in
    sym (ap (λ o. let found = fault_or o listed in (place + found.0, found.1)) e)

pub fault_listed : (field : ScheduleField) (place : ℕ) (item : List ℕ) (fault : ℕ × ScheduleFault) → named_fault field item ≡ None
    → fault ≡ field_item_fault (names_of_field field) (least_of_field field) (greatest_of_field field) item → (place + fault.0, fault.1) ≡ fault_in field (place, item)
unfolding fault_in
fault_listed field place item fault e is =
    let listed = field_item_fault (names_of_field field) (least_of_field field) (greatest_of_field field) item in
    ap (λ found. (place + found.0, found.1)) is ∙ sym (ap (λ o. let found = fault_or o listed in (place + found.0, found.1)) e)
