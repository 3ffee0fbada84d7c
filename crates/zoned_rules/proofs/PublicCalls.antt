-- From seconds to date-times.
use Rattle.std.proofs.Common.{◌≡◌, ◌↔◌, ℤ, ◌+ℤ◌, Bool, true, false, IsTrue, IsFalse, of_z, to_z, w64, arith, refl, subst, sym}
use Rattle.std.proofs.lemmas.Int.{ints}
use Rattle.chrono_datetime.specs.Time.{FractionFits}
use Rattle.chrono_instant.specs.Instants.{IsEpochSecond, second_of_minute}
use Rattle.chrono_zoned.proofs.SecondSums.{carried}
use Rattle.zoned_rules.specs.LocalInstants.{HasDates}

pub decided : (b : Bool) (P : Type 0) → (IsTrue b → P) → (IsFalse b → ¬ P) → IsTrue b ↔ P
decided true P f g = (f, λ p. refl)
decided false P f g = (f, λ p. absurd (g refl p))

-- a date-time of the zone is at each instant at which UTC and the clock have dates
pub exists_there : (ahead : ℤ → ℤ) (X x : ℤ) → X ≡ x → HasDates ahead x → IsEpochSecond X × FractionFits (second_of_minute X) 0 × IsEpochSecond (X +ℤ ahead X)
exists_there ahead X x is dates =
    subst (λ (y : ℤ). IsEpochSecond y × FractionFits (second_of_minute y) 0 × IsEpochSecond (y +ℤ ahead y)) (sym is)
    (dates.utc, (omega arith, λ leap. absurd (omega (arith, leap))), dates.local)

-- the second of such an instant comes back as it
pub back_there : (ahead : ℤ → ℤ) (x : ℤ) → HasDates ahead x → to_z w64 (of_z w64 x) ≡ x
back_there ahead x h = let date = h.utc in carried x x refl (omega (arith, ints, date.0), omega (arith, ints, date.1))
