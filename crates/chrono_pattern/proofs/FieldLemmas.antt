-- A text that a pattern reads gives the parts that its specifiers name.
use Rattle.std.proofs.Common.{◌≡◌, ℕ, List, [], ◌∷◌, length, Option, None, Some, refl, ap, sym, ◌∙◌, arith}
use Rattle.chrono_pattern.specs.NamedParts.{named_from, with_item}
use Rattle.chrono_pattern.specs.PatternSteps.{pattern_step}
use Rattle.chrono_pattern.specs.declared.item.Item.{Item}
use Rattle.chrono_pattern.specs.declared.item.State.{State}
use Rattle.chrono_pattern.specs.declared.parsed.Parsed.{Parsed}

-- ---- the parts that the bytes name, byte by byte

pub named_from-more : (s : State) (c : ℕ) (bytes : List ℕ) (p : Parsed) (next : State × Item) → pattern_step s c ≡ Some next
    → named_from s (c ∷ bytes) p ≡ named_from next.0 bytes (with_item next.1 p)
unfolding named_from
named_from-more s c bytes p next e =
    ap (λ (o : Option (State × Item)). elim o as (λ _. Parsed) [ None ↦ p | Some n ↦ named_from n.0 bytes (with_item n.1 p) ]) e

pub named_from-none : (s : State) (c : ℕ) (bytes : List ℕ) (p : Parsed) → pattern_step s c ≡ None → named_from s (c ∷ bytes) p ≡ p
unfolding named_from
named_from-none s c bytes p e =
    ap (λ (o : Option (State × Item)). elim o as (λ _. Parsed) [ None ↦ p | Some n ↦ named_from n.0 bytes (with_item n.1 p) ]) e

pub named_from-nothing : (s : State) (p : Parsed) → named_from s [] p ≡ p
unfolding named_from
named_from-nothing s p = refl

pub named_from-goes_on : (s : State) (c : ℕ) (bytes behind : List ℕ) (p q : Parsed) (next : State × Item) → bytes ≡ c ∷ behind
    → pattern_step s c ≡ Some next → q ≡ with_item next.1 p → named_from s bytes p ≡ named_from next.0 behind q
named_from-goes_on s c bytes behind p q next is step put =
    ap (λ (l : List ℕ). named_from s l p) is ∙ named_from-more s c behind p next step
    ∙ ap (λ (t : Parsed). named_from next.0 behind t) (sym put)

pub named_from-stops : (s : State) (c : ℕ) (bytes behind : List ℕ) (p : Parsed) → bytes ≡ c ∷ behind → pattern_step s c ≡ None
    → named_from s bytes p ≡ p
named_from-stops s c bytes behind p is step = ap (λ (l : List ℕ). named_from s l p) is ∙ named_from-none s c behind p step

pub named_from-ends : (s : State) (bytes : List ℕ) (p : Parsed) → length bytes ≡ 0 → named_from s bytes p ≡ p
named_from-ends s [] p none = named_from-nothing s p
named_from-ends s (c ∷ bytes) p none = absurd (omega (arith, none))
