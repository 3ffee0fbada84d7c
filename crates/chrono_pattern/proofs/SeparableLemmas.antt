-- A pattern byte by byte: whether it is separable.
use Rattle.std.proofs.Common.{◌≡◌, ℕ, Bool, true, false, ◌&&◌, List, [], ◌∷◌, length, Option, Some, None, refl, ap, sym, ◌∙◌, arith}
use Rattle.chrono_pattern.specs.PatternSteps.{pattern_step}
use Rattle.chrono_pattern.specs.Separable.{bar_behind, is_separable_from, takes_item}
use Rattle.chrono_pattern.specs.declared.item.Bar.{Bar}
use Rattle.chrono_pattern.specs.declared.item.Item.{Item}
use Rattle.chrono_pattern.specs.declared.item.State.{State}

pub separable-more : (wide : Bool) (s : State) (bar : Bar) (c : ℕ) (bytes : List ℕ) (next : State × Item) → pattern_step s c ≡ Some next
    → is_separable_from wide s bar (c ∷ bytes) ≡ (takes_item wide bar next.1 && is_separable_from wide next.0 (bar_behind wide bar next.1) bytes)
unfolding is_separable_from
separable-more wide s bar c bytes next e =
    ap (λ (o : Option (State × Item)). elim o as (λ _. Bool) [ None ↦ false | Some n ↦ takes_item wide bar n.1 && is_separable_from wide n.0 (bar_behind wide bar n.1) bytes ]) e

pub separable-none : (wide : Bool) (s : State) (bar : Bar) (c : ℕ) (bytes : List ℕ) → pattern_step s c ≡ None → is_separable_from wide s bar (c ∷ bytes) ≡ false
unfolding is_separable_from
separable-none wide s bar c bytes e =
    ap (λ (o : Option (State × Item)). elim o as (λ _. Bool) [ None ↦ false | Some n ↦ takes_item wide bar n.1 && is_separable_from wide n.0 (bar_behind wide bar n.1) bytes ]) e

separable-nothing : (wide : Bool) (s : State) (bar : Bar) → is_separable_from wide s bar [] ≡ true
unfolding is_separable_from
separable-nothing wide s bar = refl

-- the same of bytes that begin with one
pub separable-goes_on : (wide : Bool) (s : State) (bar after : Bar) (c : ℕ) (bytes behind : List ℕ) (next : State × Item) → bytes ≡ c ∷ behind
    → pattern_step s c ≡ Some next → takes_item wide bar next.1 ≡ true → after ≡ bar_behind wide bar next.1
    → is_separable_from wide s bar bytes ≡ is_separable_from wide next.0 after behind
separable-goes_on wide s bar after c bytes behind next is step takes bars =
    ap (λ (l : List ℕ). is_separable_from wide s bar l) is ∙ separable-more wide s bar c behind next step
    ∙ ap (λ (b : Bool). b && is_separable_from wide next.0 (bar_behind wide bar next.1) behind) takes
    ∙ ap (λ (b : Bar). is_separable_from wide next.0 b behind) (sym bars)

pub separable-taken : (wide : Bool) (s : State) (bar : Bar) (c : ℕ) (bytes behind : List ℕ) (next : State × Item) → bytes ≡ c ∷ behind
    → pattern_step s c ≡ Some next → takes_item wide bar next.1 ≡ false → is_separable_from wide s bar bytes ≡ false
separable-taken wide s bar c bytes behind next is step takes =
    ap (λ (l : List ℕ). is_separable_from wide s bar l) is ∙ separable-more wide s bar c behind next step
    ∙ ap (λ (b : Bool). b && is_separable_from wide next.0 (bar_behind wide bar next.1) behind) takes

pub separable-stops : (wide : Bool) (s : State) (bar : Bar) (c : ℕ) (bytes behind : List ℕ) → bytes ≡ c ∷ behind → pattern_step s c ≡ None
    → is_separable_from wide s bar bytes ≡ false
separable-stops wide s bar c bytes behind is step = ap (λ (l : List ℕ). is_separable_from wide s bar l) is ∙ separable-none wide s bar c behind step

pub separable-ends : (wide : Bool) (s : State) (bar : Bar) (bytes : List ℕ) → length bytes ≡ 0 → is_separable_from wide s bar bytes ≡ true
separable-ends wide s bar [] none = separable-nothing wide s bar
separable-ends wide s bar (c ∷ bytes) none = absurd (omega (arith, none))
