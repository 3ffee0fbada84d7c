-- What a pattern writes and reads hangs on its items alone.
use Rattle.std.proofs.Common.{ℤ, ◌≡◌, ℕ, List, [], ◌∷◌, ◌++◌, append_assoc, Option, None, Some, Result, Ok, Err, refl, ap, sym, ◌∙◌}
use Rattle.chrono_datetime.specs.Moment.{Moment}
use Rattle.chrono_pattern.specs.ItemReads.{item_read}
use Rattle.chrono_pattern.specs.Parts.{no_parts}
use Rattle.chrono_pattern.specs.PatternItems.{item_before, items_from, pattern_items}
use Rattle.chrono_pattern.specs.Patterns.{text_at_offset, text_from, text_of_item}
use Rattle.chrono_pattern.specs.PatternSteps.{pattern_step}
use Rattle.chrono_pattern.specs.Progress.{Progress}
use Rattle.chrono_pattern.specs.Reads.{end_read, read_from, text_read}
use Rattle.chrono_pattern.specs.declared.item.Item.{Item}
use Rattle.chrono_pattern.specs.declared.item.Item.TheVariants.{Empty, Byte, Number, Word, Group, Subsecond, Zoned}
use Rattle.chrono_pattern.specs.declared.item.State.{State}
use Rattle.chrono_pattern.specs.declared.item.State.TheVariants.{Outside}
use Rattle.chrono_pattern.specs.declared.stop.Stop.{Stop}
use Rattle.chrono_pattern.proofs.PatternLemmas.{text_from-more, text_from-none, text_from-nothing}
use Rattle.chrono_pattern.proofs.ReadLemmas.{behind_item, read_from-more, read_from-none, read_from-nothing}

pub items_from-more : (s : State) (c : ℕ) (bytes : List ℕ) (next : State × Item) → pattern_step s c ≡ Some next
    → items_from s (c ∷ bytes) ≡ item_before next.1 (items_from next.0 bytes)
unfolding items_from
items_from-more s c bytes next e =
    ap (λ (o : Option (State × Item)). elim o as (λ _. List Item) [ None ↦ [] | Some n ↦ item_before n.1 (items_from n.0 bytes) ]) e

pub items_from-none : (s : State) (c : ℕ) (bytes : List ℕ) → pattern_step s c ≡ None → items_from s (c ∷ bytes) ≡ []
unfolding items_from
items_from-none s c bytes e =
    ap (λ (o : Option (State × Item)). elim o as (λ _. List Item) [ None ↦ [] | Some n ↦ item_before n.1 (items_from n.0 bytes) ]) e

pub items_from-nothing : (s : State) → items_from s [] ≡ []
unfolding items_from
items_from-nothing s = refl

-- ---- the text

abbrev items_text : List Item → Moment → ℤ → List ℕ
items_text [] m x = []
items_text (item ∷ items) m x = text_of_item item m x ++ items_text items m x

before_text : (item : Item) (items : List Item) (m : Moment) (x : ℤ) → items_text (item_before item items) m x ≡ text_of_item item m x ++ items_text items m x
before_text Empty items m x = refl
before_text (Byte c) items m x = refl
before_text (Number field padding) items m x = refl
before_text (Word word) items m x = refl
before_text (Group group) items m x = refl
before_text (Subsecond point count) items m x = refl
before_text (Zoned field) items m x = refl

abbrev TextIs : List ℕ → Moment → ℤ → Type 0
TextIs bytes m x = (s : State) → text_from s bytes m x ≡ items_text (items_from s bytes) m x

step_text : (c : ℕ) (bytes : List ℕ) (m : Moment) (x : ℤ) → TextIs bytes m x → (s : State) (o : Option (State × Item)) → pattern_step s c ≡ o
    → text_from s (c ∷ bytes) m x ≡ items_text (items_from s (c ∷ bytes)) m x
step_text c bytes m x rest s None e =
    text_from-none s c bytes m x e ∙ ap (λ (l : List Item). items_text l m x) (sym (items_from-none s c bytes e))
step_text c bytes m x rest s (Some next) e =
    text_from-more s c bytes m x next e
    ∙ ap (λ (l : List ℕ). text_of_item next.1 m x ++ l) (rest next.0)
    ∙ sym (before_text next.1 (items_from next.0 bytes) m x)
    ∙ ap (λ (l : List Item). items_text l m x) (sym (items_from-more s c bytes next e))

text_is : (bytes : List ℕ) (m : Moment) (x : ℤ) → TextIs bytes m x
text_is [] m x s = text_from-nothing s m x ∙ ap (λ (l : List Item). items_text l m x) (sym (items_from-nothing s))
text_is (c ∷ bytes) m x s = step_text c bytes m x (text_is bytes m x) s (pattern_step s c) refl

pub same_text : (a b : List ℕ) (m : Moment) (x : ℤ) → pattern_items a ≡ pattern_items b → text_at_offset a m x ≡ text_at_offset b m x
same_text a b m x same = text_is a m x Outside ∙ ap (λ (l : List Item). items_text l m x) same ∙ sym (text_is b m x Outside)

-- the text of an item in front, and of what is behind it
pub text_of_front : (bytes rest : List ℕ) (item : Item) (m : Moment) (x : ℤ) → items_from Outside bytes ≡ item_before item (items_from Outside rest)
    → text_from Outside bytes m x ≡ text_of_item item m x ++ text_from Outside rest m x
text_of_front bytes rest item m x front =
    text_is bytes m x Outside
    ∙ ap (λ (l : List Item). items_text l m x) front
    ∙ before_text item (items_from Outside rest) m x
    ∙ ap (λ (l : List ℕ). text_of_item item m x ++ l) (sym (text_is rest m x Outside))

pub front_grows : (text bytes behind : List ℕ) (item : Item) (m : Moment) (x : ℤ) (total : List ℕ) → text ++ text_from Outside bytes m x ≡ total
    → items_from Outside bytes ≡ item_before item (items_from Outside behind) → (text ++ text_of_item item m x) ++ text_from Outside behind m x ≡ total
front_grows text bytes behind item m x total whole front =
    append_assoc text (text_of_item item m x) (text_from Outside behind m x)
    ∙ ap (λ (l : List ℕ). text ++ l) (sym (text_of_front bytes behind item m x front))
    ∙ whole

pub text_of_none : (bytes : List ℕ) (m : Moment) (x : ℤ) → items_from Outside bytes ≡ [] → text_from Outside bytes m x ≡ []
text_of_none bytes m x none = text_is bytes m x Outside ∙ ap (λ (l : List Item). items_text l m x) none

-- ---- what is read

abbrev items_read : List Item → Progress → Result Progress Stop
items_read [] r = Ok r
items_read (item ∷ items) r = elim (item_read item r) as (λ _. Result Progress Stop) [ Ok q ↦ items_read items q | Err k ↦ Err k ]

abbrev behind_items : Result Progress Stop → List Item → Result Progress Stop
behind_items (Ok q) items = items_read items q
behind_items (Err k) items = Err k

by_result : (o : Result Progress Stop) (items : List Item)
    → elim o as (λ _. Result Progress Stop) [ Ok q ↦ items_read items q | Err k ↦ Err k ] ≡ behind_items o items
by_result (Ok q) items = refl
by_result (Err k) items = refl

before_read : (item : Item) (items : List Item) (r : Progress) → items_read (item_before item items) r ≡ behind_items (item_read item r) items
before_read Empty items r = refl
before_read (Byte c) items r = by_result (item_read (Byte c) r) items
before_read (Number field padding) items r = by_result (item_read (Number field padding) r) items
before_read (Word word) items r = by_result (item_read (Word word) r) items
before_read (Group group) items r = by_result (item_read (Group group) r) items
before_read (Subsecond point count) items r = by_result (item_read (Subsecond point count) r) items
before_read (Zoned field) items r = by_result (item_read (Zoned field) r) items

abbrev ReadIs : List ℕ → Type 0
ReadIs bytes = (s : State) (r : Progress) → read_from s bytes r ≡ items_read (items_from s bytes) r

item_then : (bytes : List ℕ) → ReadIs bytes → (s : State) (o : Result Progress Stop) → behind_item o s bytes ≡ behind_items o (items_from s bytes)
item_then bytes rest s (Ok q) = rest s q
item_then bytes rest s (Err k) = refl

step_read : (c : ℕ) (bytes : List ℕ) → ReadIs bytes → (s : State) (r : Progress) (o : Option (State × Item)) → pattern_step s c ≡ o
    → read_from s (c ∷ bytes) r ≡ items_read (items_from s (c ∷ bytes)) r
step_read c bytes rest s r None e =
    read_from-none s c bytes r e ∙ ap (λ (l : List Item). items_read l r) (sym (items_from-none s c bytes e))
step_read c bytes rest s r (Some next) e =
    read_from-more s c bytes r next e
    ∙ item_then bytes rest next.0 (item_read next.1 r)
    ∙ sym (before_read next.1 (items_from next.0 bytes) r)
    ∙ ap (λ (l : List Item). items_read l r) (sym (items_from-more s c bytes next e))

read_is : (bytes : List ℕ) → ReadIs bytes
read_is [] s r = read_from-nothing s r ∙ ap (λ (l : List Item). items_read l r) (sym (items_from-nothing s))
read_is (c ∷ bytes) s r = step_read c bytes (read_is bytes) s r (pattern_step s c) refl

pub same_read : (a b text : List ℕ) → pattern_items a ≡ pattern_items b → text_read a text ≡ text_read b text
same_read a b text same =
    let start : Progress = record { rest = text; parsed = no_parts } in
    ap (λ (o : Result Progress Stop). end_read o) (read_is a Outside start ∙ ap (λ (l : List Item). items_read l start) same ∙ sym (read_is b Outside start))

-- an item in front is read, and then what is behind it
pub read_of_front : (bytes rest : List ℕ) (item : Item) (r : Progress) → items_from Outside bytes ≡ item_before item (items_from Outside rest)
    → read_from Outside bytes r ≡ behind_item (item_read item r) Outside rest
read_of_front bytes rest item r front =
    read_is bytes Outside r
    ∙ ap (λ (l : List Item). items_read l r) front
    ∙ before_read item (items_from Outside rest) r
    ∙ sym (item_then rest (read_is rest) Outside (item_read item r))

pub read_of_none : (bytes : List ℕ) (r : Progress) → items_from Outside bytes ≡ [] → read_from Outside bytes r ≡ Ok r
read_of_none bytes r none = read_is bytes Outside r ∙ ap (λ (l : List Item). items_read l r) none
