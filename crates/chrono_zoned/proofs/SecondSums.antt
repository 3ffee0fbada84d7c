-- Sums of seconds that fit their type.
use Rattle.std.proofs.Common.{◌≡◌, ℤ, pos, negsuc, neg_ℤ, ◌≤ℤ◌, ◌<ℤ◌, SFits, of_z, to_z, w32, w64, arith, subst, sym, ◌∙◌}
use Rattle.std.proofs.lemmas.Int.{ints, to_z-of_z}
use Rattle.chrono_datetime.proofs.Signed.{casts}
use Rattle.chrono_instant.specs.Offsets.{IsOffset}

-- an offset is less than a day
pub near : (x : ℤ) → IsOffset x → (neg_ℤ (pos 86_400) <ℤ x) × (x <ℤ pos 86_400)
near x h = (omega (arith, casts, h), omega (arith, casts, h))

-- no more than the seconds of dates and some weeks
abbrev pub IsNearDates : ℤ → Type 0
IsNearDates z = (neg_ℤ (pos 9_100_000_000_000) ≤ℤ z) × (z ≤ℤ pos 9_100_000_000_000)

fits : (y : ℤ) → IsNearDates y → SFits w64 y
fits (pos n) h = record { sfits = omega (arith, ints, h.1) }
fits (negsuc n) h = record { sfits = omega (arith, ints, h.0) }

pub fits_by : (x y : ℤ) → x ≡ y → IsNearDates y → SFits w64 x
fits_by x y e h = subst (λ (z : ℤ). SFits w64 z) (sym e) (fits y h)

-- such a number comes back as it
pub carried : (x y : ℤ) → x ≡ y → IsNearDates y → to_z w64 (of_z w64 x) ≡ y
carried x y e h = to_z-of_z w64 x (fits_by x y e h) ∙ e

fits_offset : (y : ℤ) → IsOffset y → SFits w32 y
fits_offset (pos n) h = record { sfits = omega (arith, h) }
fits_offset (negsuc n) h = record { sfits = omega (arith, h) }

-- and so does an offset
pub offset_carried : (r m offset x : ℤ) → r ≡ to_z w32 (of_z w32 m) → m ≡ offset → offset ≡ x → IsOffset x → to_z w64 (of_z w64 r) ≡ x
offset_carried r m offset x is_r is_m is_x close =
    let is : m ≡ x = is_m ∙ is_x in
    let back : to_z w32 (of_z w32 m) ≡ x = to_z-of_z w32 m (subst (λ (z : ℤ). SFits w32 z) (sym is) (fits_offset x close)) ∙ is in
    let bounds = near x close in
    carried r x (is_r ∙ back) (omega (arith, ints, bounds.0), omega (arith, ints, bounds.1))
