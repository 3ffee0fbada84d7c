-- The item that bytes begin with: a byte of a specifier that goes on writes nothing.
use Rattle.std.proofs.Common.{◌≡◌, ◌≢◌, ℕ, ◌==◌, ◌⊎◌, inl, inr, Bool, true, false, if◌then◌else◌, List, [], ◌∷◌, length, Option, None, Some, refl, ap, ◌∙◌, subst, arith}
use Rattle.std.proofs.lemmas.Bool.{false≢true}
use Rattle.std.proofs.lemmas.Bool.Decides.{nat_tests}
use Rattle.std.specs.Prelude.{⊤, IfNone}
use Rattle.std.specs.Str.{byte}
use Rattle.chrono_pattern.specs.PatternItems.{is_within, item_before, items_from}
use Rattle.chrono_pattern.specs.PatternSteps.{colon_step, date_number_at, digits_at, group_at, grouped_step, named_step, opened_step, padding_at, pattern_step, single_step, stamped_step, time_number_at, timed_step, unless_padded, unpadded_step, word_at, zoned_step}
use Rattle.chrono_pattern.specs.declared.item.GroupField.{GroupField}
use Rattle.chrono_pattern.specs.declared.item.Item.{Item}
use Rattle.chrono_pattern.specs.declared.item.Item.TheVariants.{Byte, Empty, Number, Word, Group}
use Rattle.chrono_pattern.specs.declared.item.NumberField.{NumberField}
use Rattle.chrono_pattern.specs.declared.item.Padding.{Padding}
use Rattle.chrono_pattern.specs.declared.item.Padding.TheVariants.{Usual, Nothing, Spaces, Zeros}
use Rattle.chrono_pattern.specs.declared.item.State.{State}
use Rattle.chrono_pattern.specs.declared.item.State.TheVariants.{Outside, Opened, Digits, Marked}
use Rattle.chrono_pattern.specs.declared.item.OffsetForm.{OffsetForm}
use Rattle.chrono_pattern.specs.declared.item.OffsetForm.TheVariants.{Plain, Colon, Seconds, Hours, Loose}
use Rattle.chrono_pattern.specs.declared.item.WordField.{WordField}
use Rattle.chrono_pattern.proofs.ItemLemmas.{items_from-more, items_from-none, items_from-nothing}

-- ---- within a specifier nothing is written

abbrev IsQuietAt : State → Item → Type 0
IsQuietAt Outside item = ⊤
IsQuietAt (Opened p) item = item ≡ Empty
IsQuietAt (Digits point count) item = item ≡ Empty
IsQuietAt (Marked form) item = item ≡ Empty

abbrev IsQuiet : Option (State × Item) → Type 0
IsQuiet None = ⊤
IsQuiet (Some next) = IsQuietAt next.0 next.1

if_quiet : (b : Bool) (x y : Option (State × Item)) → IsQuiet x → IsQuiet y → IsQuiet (if b then x else y)
if_quiet true x y hx hy = hx
if_quiet false x y hx hy = hy

digits_quiet : (point : Bool) (c : ℕ) → IsQuiet (digits_at point c)
digits_quiet point c =
    if_quiet (c == byte "3") _ _ refl (if_quiet (c == byte "6") _ _ refl (if_quiet (c == byte "9") _ _ refl tt))

zoned_quiet : (c : ℕ) → IsQuiet (zoned_step c)
zoned_quiet c =
    if_quiet (c == byte "z") _ _ tt
    (if_quiet (c == byte "Z") _ _ tt
    (if_quiet (c == byte "+") _ _ tt
    (if_quiet (c == byte ":") _ _ refl (if_quiet (c == byte "#") _ _ refl (digits_quiet false c)))))

colon_quiet : (form : OffsetForm) → IsQuiet (colon_step form)
colon_quiet Plain = refl
colon_quiet Colon = refl
colon_quiet Seconds = refl
colon_quiet Hours = tt
colon_quiet Loose = tt

single_quiet : (c : ℕ) → IsQuiet (single_step c)
single_quiet c =
    if_quiet (c == byte "%") _ _ tt
    (if_quiet (c == byte "n") _ _ tt (if_quiet (c == byte "t") _ _ tt (if_quiet (c == byte ".") _ _ refl (zoned_quiet c))))

grouped_quiet : (c : ℕ) (o : Option GroupField) → IsQuiet (elim o as (λ _. Option (State × Item)) [ None ↦ single_step c | Some g ↦ Some (Outside, Group g) ])
grouped_quiet c None = single_quiet c
grouped_quiet c (Some g) = tt

named_quiet : (c : ℕ) (o : Option WordField) → IsQuiet (elim o as (λ _. Option (State × Item)) [ None ↦ grouped_step c | Some w ↦ Some (Outside, Word w) ])
named_quiet c None = grouped_quiet c (group_at c)
named_quiet c (Some w) = tt

unpadded_quiet : (c : ℕ) (o : Option Padding) → IsQuiet (elim o as (λ _. Option (State × Item)) [ None ↦ named_step c | Some p ↦ Some (Opened p, Empty) ])
unpadded_quiet c None = named_quiet c (word_at c)
unpadded_quiet c (Some p) = refl

padded_quiet : (p : Padding) (c : ℕ) → IsQuiet (unless_padded p c)
unfolding unpadded_step
padded_quiet Usual c = unpadded_quiet c (padding_at c)
padded_quiet Nothing c = tt
padded_quiet Spaces c = tt
padded_quiet Zeros c = tt

stamped_quiet : (p : Padding) (c : ℕ) → IsQuiet (stamped_step p c)
stamped_quiet p c = if_quiet (c == byte "s") _ _ tt (padded_quiet p c)

timed_quiet : (p : Padding) (c : ℕ) (o : Option NumberField)
    → IsQuiet (elim o as (λ _. Option (State × Item)) [ None ↦ stamped_step p c | Some n ↦ Some (Outside, Number n p) ])
timed_quiet p c None = stamped_quiet p c
timed_quiet p c (Some n) = tt

opened_quiet : (p : Padding) (c : ℕ) (o : Option NumberField)
    → IsQuiet (elim o as (λ _. Option (State × Item)) [ None ↦ timed_step p c | Some n ↦ Some (Outside, Number n p) ])
opened_quiet p c None = timed_quiet p c (time_number_at c)
opened_quiet p c (Some n) = tt

step_quiet : (s : State) (c : ℕ) → IsQuiet (pattern_step s c)
unfolding opened_step
step_quiet Outside c = if_quiet (c == byte "%") _ _ refl tt
step_quiet (Opened p) c = opened_quiet p c (date_number_at c)
step_quiet (Digits point count) c =
    if_quiet (c == byte "f") _ _ tt (if_quiet (count == 0) _ _ (digits_quiet point c) tt)
step_quiet (Marked form) c = if_quiet (c == byte "z") _ _ tt (if_quiet (c == byte ":") _ _ (colon_quiet form) tt)

-- ---- the items of bytes that begin with one

pub front_goes_on : (s : State) (c : ℕ) (bytes behind : List ℕ) (next : State × Item) → bytes ≡ c ∷ behind → pattern_step s c ≡ Some next
    → items_from s bytes ≡ item_before next.1 (items_from next.0 behind)
front_goes_on s c bytes behind next is step = ap (λ (l : List ℕ). items_from s l) is ∙ items_from-more s c behind next step

pub front_stops : (s : State) (c : ℕ) (bytes behind : List ℕ) → bytes ≡ c ∷ behind → pattern_step s c ≡ None → items_from s bytes ≡ []
front_stops s c bytes behind is step = ap (λ (l : List ℕ). items_from s l) is ∙ items_from-none s c behind step

pub front_ends : (s : State) (bytes : List ℕ) → length bytes ≡ 0 → items_from s bytes ≡ []
front_ends s [] none = items_from-nothing s
front_ends s (c ∷ bytes) none = absurd (omega (arith, none))

-- a specifier begins with `%`, and any other byte stands for itself
pub begins : (c : ℕ) → c ≡ byte "%" → pattern_step Outside c ≡ Some (Opened Usual, Empty)
begins c is = ap (λ (k : ℕ). pattern_step Outside k) is

differs : (c : ℕ) → c ≢ byte "%" → (c == byte "%") ≡ false
differs c not = grind (arith, nat_tests, not)

pub stands_for_itself : (c : ℕ) → c ≢ byte "%" → pattern_step Outside c ≡ Some (Outside, Byte c)
stands_for_itself c not = ap (λ (b : Bool). if b then Some (Opened Usual, Empty) else Some (Outside, Byte c)) (differs c not)

-- the same within a specifier of more bytes
pub within : (s : State) → ((p : Padding) × (s ≡ Opened p)) ⊎ (((point : Bool) × (count : ℕ) × (s ≡ Digits point count)) ⊎ ((form : OffsetForm) × (s ≡ Marked form)))
    → is_within s ≡ true
within s (inl (p, is)) = ap is_within is
within s (inr (inl (point, count, is))) = ap is_within is
within s (inr (inr (form, is))) = ap is_within is

quiet_before : (s : State) (item : Item) (items : List Item) → IsQuietAt s item → is_within s ≡ true → item_before item items ≡ items
quiet_before Outside item items quiet within = absurd (false≢true within)
quiet_before (Opened p) item items quiet within = ap (λ (it : Item). item_before it items) quiet
quiet_before (Digits point count) item items quiet within = ap (λ (it : Item). item_before it items) quiet
quiet_before (Marked form) item items quiet within = ap (λ (it : Item). item_before it items) quiet

pub front_is_later : (s : State) (c : ℕ) (bytes behind : List ℕ) (next : State × Item) → bytes ≡ c ∷ behind → pattern_step s c ≡ Some next
    → is_within next.0 ≡ true → items_from s bytes ≡ items_from next.0 behind
front_is_later s c bytes behind next is step within =
    let quiet : IsQuietAt next.0 next.1 = subst IsQuiet step (step_quiet s c) in
    front_goes_on s c bytes behind next is step ∙ quiet_before next.0 next.1 (items_from next.0 behind) quiet within

pub IfNone_then : {X : Type 0} (r : Option X) {P Q : Type 0} → IfNone r P → (P → Q) → IfNone r Q
IfNone_then None h f = f h
IfNone_then (Some x) h f = tt
