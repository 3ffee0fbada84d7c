-- A pattern byte by byte: its text, and its first error.
use Rattle.std.proofs.Common.{◌≡◌, ℕ, Bool, true, false, ◌||◌, ◌+◌, ◌≤◌, List, [], ◌∷◌, ◌++◌, length, length-append, append-nil, Option, None, Some, ℤ, refl, ap, sym, ◌∙◌, arith}
use Rattle.chrono_datetime.specs.Moment.{Moment}
use Rattle.chrono_pattern.specs.Needs.{has_item_of, is_item_of}
use Rattle.chrono_pattern.specs.Patterns.{begun_at, cut_error, error_from, text_of_item, text_from}
use Rattle.chrono_pattern.specs.PatternSteps.{pattern_step}
use Rattle.chrono_pattern.specs.declared.error.PatternError.{PatternError}
use Rattle.chrono_pattern.specs.declared.error.PatternFault.TheVariants.{Unknown}
use Rattle.chrono_pattern.specs.declared.item.Item.{Item}
use Rattle.chrono_pattern.specs.declared.item.State.{State}
use Rattle.chrono_pattern.specs.declared.needs.Sort.{Sort}

-- ---- the text

pub text_from-more : (s : State) (c : ℕ) (bytes : List ℕ) (m : Moment) (x : ℤ) (next : State × Item) → pattern_step s c ≡ Some next
    → text_from s (c ∷ bytes) m x ≡ text_of_item next.1 m x ++ text_from next.0 bytes m x
unfolding text_from
text_from-more s c bytes m x next e =
    ap (λ (o : Option (State × Item)). elim o as (λ _. List ℕ) [ None ↦ [] | Some n ↦ text_of_item n.1 m x ++ text_from n.0 bytes m x ]) e

pub text_from-none : (s : State) (c : ℕ) (bytes : List ℕ) (m : Moment) (x : ℤ) → pattern_step s c ≡ None
    → text_from s (c ∷ bytes) m x ≡ []
unfolding text_from
text_from-none s c bytes m x e =
    ap (λ (o : Option (State × Item)). elim o as (λ _. List ℕ) [ None ↦ [] | Some n ↦ text_of_item n.1 m x ++ text_from n.0 bytes m x ]) e

pub text_from-nothing : (s : State) (m : Moment) (x : ℤ) → text_from s [] m x ≡ []
unfolding text_from
text_from-nothing s m x = refl

-- where nothing is left, all is written
pub all_written : (text rest total : List ℕ) → text ++ rest ≡ total → rest ≡ [] → text ≡ total
all_written text rest total whole none = sym (append-nil text) ∙ ap (λ (l : List ℕ). text ++ l) (sym none) ∙ whole

-- the whole text is no shorter than what is put
pub no_shorter : (text piece rest total : List ℕ) → (text ++ piece) ++ rest ≡ total → length text + length piece ≤ length total
no_shorter text piece rest total whole =
    omega (arith, ap (λ (l : List ℕ). length l) whole, length-append (text ++ piece) rest, length-append text piece)

-- ---- the first error

error_from-more : (s : State) (begun place c : ℕ) (bytes : List ℕ) (next : State × Item) → pattern_step s c ≡ Some next
    → error_from s begun place (c ∷ bytes) ≡ error_from next.0 (begun_at s begun place) (place + 1) bytes
unfolding error_from
error_from-more s begun place c bytes next e =
    ap (λ (o : Option (State × Item)). elim o as (λ _. Option PatternError) [ None ↦ Some (record { byte = begun_at s begun place; cause = Unknown }) | Some n ↦ error_from n.0 (begun_at s begun place) (place + 1) bytes ]) e

error_from-none : (s : State) (begun place c : ℕ) (bytes : List ℕ) → pattern_step s c ≡ None
    → error_from s begun place (c ∷ bytes) ≡ Some (record { byte = begun_at s begun place; cause = Unknown })
unfolding error_from
error_from-none s begun place c bytes e =
    ap (λ (o : Option (State × Item)). elim o as (λ _. Option PatternError) [ None ↦ Some (record { byte = begun_at s begun place; cause = Unknown }) | Some n ↦ error_from n.0 (begun_at s begun place) (place + 1) bytes ]) e

error_from-nothing : (s : State) (begun place : ℕ) → error_from s begun place [] ≡ cut_error s begun
unfolding error_from
error_from-nothing s begun place = refl

-- the same of bytes that begin with one
pub error_from-goes_on : (s : State) (begun place c : ℕ) (bytes behind : List ℕ) (next : State × Item) → bytes ≡ c ∷ behind
    → pattern_step s c ≡ Some next → error_from s begun place bytes ≡ error_from next.0 (begun_at s begun place) (place + 1) behind
error_from-goes_on s begun place c bytes behind next is step =
    ap (λ (l : List ℕ). error_from s begun place l) is ∙ error_from-more s begun place c behind next step

pub error_from-stops : (s : State) (begun place c : ℕ) (bytes behind : List ℕ) → bytes ≡ c ∷ behind → pattern_step s c ≡ None
    → error_from s begun place bytes ≡ Some (record { byte = begun_at s begun place; cause = Unknown })
error_from-stops s begun place c bytes behind is step =
    ap (λ (l : List ℕ). error_from s begun place l) is ∙ error_from-none s begun place c behind step

pub error_from-ends : (s : State) (begun place : ℕ) (bytes : List ℕ) → length bytes ≡ 0
    → error_from s begun place bytes ≡ cut_error s begun
error_from-ends s begun place [] none = error_from-nothing s begun place
error_from-ends s begun place (c ∷ bytes) none = absurd (omega (arith, none))

-- ---- whether an item of a sort is there

pub has_item_of-more : (sort : Sort) (s : State) (c : ℕ) (bytes : List ℕ) (next : State × Item) → pattern_step s c ≡ Some next
    → has_item_of sort s (c ∷ bytes) ≡ (is_item_of sort next.1 || has_item_of sort next.0 bytes)
unfolding has_item_of
has_item_of-more sort s c bytes next e =
    ap (λ (o : Option (State × Item)). elim o as (λ _. Bool) [ None ↦ false | Some n ↦ is_item_of sort n.1 || has_item_of sort n.0 bytes ]) e

pub has_item_of-none : (sort : Sort) (s : State) (c : ℕ) (bytes : List ℕ) → pattern_step s c ≡ None → has_item_of sort s (c ∷ bytes) ≡ false
unfolding has_item_of
has_item_of-none sort s c bytes e =
    ap (λ (o : Option (State × Item)). elim o as (λ _. Bool) [ None ↦ false | Some n ↦ is_item_of sort n.1 || has_item_of sort n.0 bytes ]) e

pub has_item_of-nothing : (sort : Sort) (s : State) → has_item_of sort s [] ≡ false
unfolding has_item_of
has_item_of-nothing sort s = refl

-- the same of bytes that begin with one
pub has_item_of-goes_on : (sort : Sort) (s : State) (c : ℕ) (bytes behind : List ℕ) (next : State × Item) → bytes ≡ c ∷ behind
    → pattern_step s c ≡ Some next → is_item_of sort next.1 ≡ false → has_item_of sort s bytes ≡ has_item_of sort next.0 behind
has_item_of-goes_on sort s c bytes behind next is step not =
    ap (λ (l : List ℕ). has_item_of sort s l) is ∙ has_item_of-more sort s c behind next step ∙ ap (λ (b : Bool). b || has_item_of sort next.0 behind) not

pub has_item_of-found : (sort : Sort) (s : State) (c : ℕ) (bytes behind : List ℕ) (next : State × Item) → bytes ≡ c ∷ behind
    → pattern_step s c ≡ Some next → is_item_of sort next.1 ≡ true → has_item_of sort s bytes ≡ true
has_item_of-found sort s c bytes behind next is step found =
    ap (λ (l : List ℕ). has_item_of sort s l) is ∙ has_item_of-more sort s c behind next step ∙ ap (λ (b : Bool). b || has_item_of sort next.0 behind) found

pub has_item_of-stops : (sort : Sort) (s : State) (c : ℕ) (bytes behind : List ℕ) → bytes ≡ c ∷ behind → pattern_step s c ≡ None
    → has_item_of sort s bytes ≡ false
has_item_of-stops sort s c bytes behind is step = ap (λ (l : List ℕ). has_item_of sort s l) is ∙ has_item_of-none sort s c behind step

pub has_item_of-ends : (sort : Sort) (s : State) (bytes : List ℕ) → length bytes ≡ 0 → has_item_of sort s bytes ≡ false
has_item_of-ends sort s [] none = has_item_of-nothing sort s
has_item_of-ends sort s (c ∷ bytes) none = absurd (omega (arith, none))
