-- The instants of a local time: the one that there is alone, that there is one answer, and that an instant is among its own.
use Rattle.std.proofs.Common.{◌≡◌, ◌↔◌, ◌⊎◌, inl, inr, ⊎_elim, ℤ, ◌+ℤ◌, ◌-ℤ◌, ◌<ℤ◌, Option, Some, None, arith, refl, ap, subst, ◌∙◌}
use Rattle.std.proofs.lemmas.Int.{ints}
use Rattle.chrono_datetime.specs.Moment.{Moment}
use Rattle.chrono_instant.specs.Instants.{epoch_second}
use Rattle.chrono_zoned.specs.declared.mapped_local_time.MappedLocalTime.{MappedLocalTime}
use Rattle.chrono_zoned.specs.declared.mapped_local_time.MappedLocalTime.TheVariants.{None as NoInstant, Single, Ambiguous}
use Rattle.chrono_zoned.specs.Zones.{IsAmong, IsMapped, IsOnly, Shows, single_of}
use Rattle.chrono_zoned.specs.Zoned.{AreLocalIf, IsOnlyLocalIf, Zoned}

-- the seconds of which P holds are a and b
abbrev AreBoth : (ℤ → Type 0) → ℤ → ℤ → Type 0
AreBoth P a b = (u : ℤ) → P u ↔ ((u ≡ a) ⊎ (u ≡ b))

-- ---- the instant that there is alone

pub IsOnlyLocalIf-single : {Z : Type 0} (ahead : Z → ℤ → ℤ) (z : Z) (m : Option Moment) (found : MappedLocalTime (Zoned Z)) → AreLocalIf ahead z m found → IsOnlyLocalIf ahead z m (single_of found)
IsOnlyLocalIf-single ahead z None found h = ap single_of h
IsOnlyLocalIf-single ahead z (Some m) NoInstant h = λ u only. h.0 u ((only u).1 refl)
IsOnlyLocalIf-single ahead z (Some m) (Single d) h = h
IsOnlyLocalIf-single ahead z (Some m) (Ambiguous c d) h = λ u only.
    let first : epoch_second c.utc ≡ u = (only (epoch_second c.utc)).0 ((h.0.1 (epoch_second c.utc)).1 (inl refl)) in
    let second : epoch_second d.utc ≡ u = (only (epoch_second d.utc)).0 ((h.0.1 (epoch_second d.utc)).1 (inr refl)) in
    let earlier : epoch_second c.utc <ℤ epoch_second d.utc = h.0.0 in
    let alike : u <ℤ u = subst (λ (x : ℤ). x <ℤ u) first (subst (λ (x : ℤ). epoch_second c.utc <ℤ x) second earlier) in
    omega (arith, ints, alike)

-- ---- one answer

-- the offsets of one instant are one
same_offset : (l x y : ℤ) → (l -ℤ x) ≡ (l -ℤ y) → x ≡ y
same_offset l x y e = omega (arith, ints, e)

-- a second alone is no two seconds
one_is_not_two : (P : ℤ → Type 0) (u a b : ℤ) → IsOnly P u → a <ℤ b → AreBoth P a b → ⊥
one_is_not_two P u a b only lt both =
    let first = (only a).0 ((both a).1 (inl refl)) in
    let second = (only b).0 ((both b).1 (inr refl)) in
    omega (arith, ints, lt, first, second)

-- and two are the same two
two_are_two : (P : ℤ → Type 0) (a b c d : ℤ) → a <ℤ b → AreBoth P a b → c <ℤ d → AreBoth P c d → (a ≡ c) × (b ≡ d)
two_are_two P a b c d up these rise those =
    let first = (those a).0 ((these a).1 (inl refl)) in
    let second = (those b).0 ((these b).1 (inr refl)) in
    ⊎_elim
    (λ ac. ⊎_elim (λ bc. absurd (omega (arith, ints, up, ac, bc))) (λ bd. (ac, bd)) second)
    (λ ad. ⊎_elim (λ bc. absurd (omega (arith, ints, up, rise, ad, bc))) (λ bd. absurd (omega (arith, ints, up, ad, bd))) second)
    first

pub IsMapped-once : (ahead : ℤ → ℤ) (l : ℤ) (m n : MappedLocalTime ℤ) → IsMapped ahead l m → IsMapped ahead l n → m ≡ n
IsMapped-once ahead l NoInstant NoInstant h k = refl
IsMapped-once ahead l NoInstant (Single x) h k = absurd (h (l -ℤ x) ((k (l -ℤ x)).1 refl))
IsMapped-once ahead l NoInstant (Ambiguous x y) h k = absurd (h (l -ℤ x) ((k.1 (l -ℤ x)).1 (inl refl)))
IsMapped-once ahead l (Single x) NoInstant h k = absurd (k (l -ℤ x) ((h (l -ℤ x)).1 refl))
IsMapped-once ahead l (Single x) (Single y) h k = ap Single (same_offset l x y ((k (l -ℤ x)).0 ((h (l -ℤ x)).1 refl)))
IsMapped-once ahead l (Single x) (Ambiguous y z) h k = absurd (one_is_not_two (Shows ahead l) (l -ℤ x) (l -ℤ y) (l -ℤ z) h k.0 k.1)
IsMapped-once ahead l (Ambiguous x y) NoInstant h k = absurd (k (l -ℤ x) ((h.1 (l -ℤ x)).1 (inl refl)))
IsMapped-once ahead l (Ambiguous x y) (Single z) h k = absurd (one_is_not_two (Shows ahead l) (l -ℤ z) (l -ℤ x) (l -ℤ y) k h.0 h.1)
IsMapped-once ahead l (Ambiguous x y) (Ambiguous v w) h k =
    let same = two_are_two (Shows ahead l) (l -ℤ x) (l -ℤ y) (l -ℤ v) (l -ℤ w) h.0 h.1 k.0 k.1 in
    ap (λ o. Ambiguous o y) (same_offset l x v same.0) ∙ ap (Ambiguous v) (same_offset l y w same.1)

-- ---- an instant's own local time

own_offset : (u x y : ℤ) → u ≡ ((u +ℤ x) -ℤ y) → x ≡ y
own_offset u x y e = omega (arith, ints, e)

pub IsMapped-own : (ahead : ℤ → ℤ) (u : ℤ) (m : MappedLocalTime ℤ) → IsMapped ahead (u +ℤ ahead u) m → IsAmong (ahead u) m
IsMapped-own ahead u NoInstant h = h u refl
IsMapped-own ahead u (Single x) h = own_offset u (ahead u) x ((h u).0 refl)
IsMapped-own ahead u (Ambiguous x y) h =
    ⊎_elim (λ e. inl (own_offset u (ahead u) x e)) (λ e. inr (own_offset u (ahead u) y e)) ((h.1 u).0 refl)

-- ---- the offset that leads to an instant holds there

pub offset_there : (ahead : ℤ → ℤ) (l offset u : ℤ) → Shows ahead l (l -ℤ offset) → u ≡ (l -ℤ offset) → offset ≡ ahead u
offset_there ahead l offset u shows same = let there : ahead u ≡ ahead (l -ℤ offset) = ap ahead same in omega (arith, ints, shows, there)
