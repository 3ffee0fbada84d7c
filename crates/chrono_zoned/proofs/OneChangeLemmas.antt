-- What a local time stands for in a zone whose offset changes once.
use Rattle.std.proofs.Common.{◌≡◌, ⊎_elim, inl, inr, if◌then◌else◌, ℤ, pos, ◌-ℤ◌, ◌<ℤ◌, ◌≤ℤ◌, arith, refl}
use Rattle.std.proofs.lemmas.Int.{by_lt_z, ints}
use Rattle.std.specs.Int.RustNames.{int_lt}
use Rattle.chrono_clock.proofs.TimeLemmas.{int_lt-above, int_lt-below}
use Rattle.chrono_zoned.specs.declared.mapped_local_time.MappedLocalTime.TheVariants.{None as NoInstant, Single, Ambiguous}
use Rattle.chrono_zoned.specs.KnownZones.{set_ahead, set_back}
use Rattle.chrono_zoned.specs.Zones.{IsMapped}

-- the offset is a before the second `from`, and b from there on
pub record ChangesOnce (ahead : ℤ → ℤ) (from a b : ℤ) : Type 0 where
  pub early : (u : ℤ) → u <ℤ from → ahead u ≡ a
  pub late : (u : ℤ) → from ≤ℤ u → ahead u ≡ b

pub ChangesOnce-test : (from a b : ℤ) → ChangesOnce (λ u. if int_lt u from then a else b) from a b
ChangesOnce-test from a b = record { early = λ u h. rw (int_lt-below u from h) refl; late = λ u h. rw (int_lt-above u from h) refl }

pub ChangesOnce-set_ahead : ChangesOnce set_ahead (pos 1_000) (pos 0) (pos 3_600)
ChangesOnce-set_ahead = ChangesOnce-test (pos 1_000) (pos 0) (pos 3_600)

pub ChangesOnce-set_back : ChangesOnce set_back (pos 1_000) (pos 3_600) (pos 0)
ChangesOnce-set_back = ChangesOnce-test (pos 1_000) (pos 3_600) (pos 0)

-- each second lies on one side of the change
by_side : {X : Type 0} (ahead : ℤ → ℤ) (from a b u : ℤ) → ChangesOnce ahead from a b → (u <ℤ from → ahead u ≡ a → X) → (from ≤ℤ u → ahead u ≡ b → X) → X
by_side ahead from a b u s f g = by_lt_z u from (λ lt. f lt (s.early u lt)) (λ ge. g ge (s.late u ge))

pub once_early : (ahead : ℤ → ℤ) (from a b l : ℤ) → ChangesOnce ahead from a b → (l -ℤ a) <ℤ from → (l -ℤ b) <ℤ from → IsMapped ahead l (Single a)
once_early ahead from a b l s there out u = (
  λ shows. by_side ahead from a b u s (λ lt e. omega (arith, ints, shows, e)) (λ ge e. absurd (omega (arith, ints, shows, e, ge, out))),
  λ is. by_side ahead from a b u s (λ lt e. omega (arith, ints, is, e)) (λ ge e. absurd (omega (arith, ints, is, ge, there))),
)

pub once_late : (ahead : ℤ → ℤ) (from a b l : ℤ) → ChangesOnce ahead from a b → from ≤ℤ (l -ℤ a) → from ≤ℤ (l -ℤ b) → IsMapped ahead l (Single b)
once_late ahead from a b l s out there u = (
  λ shows. by_side ahead from a b u s (λ lt e. absurd (omega (arith, ints, shows, e, lt, out))) (λ ge e. omega (arith, ints, shows, e)),
  λ is. by_side ahead from a b u s (λ lt e. absurd (omega (arith, ints, is, lt, there))) (λ ge e. omega (arith, ints, is, e)),
)

pub never : (ahead : ℤ → ℤ) (from a b l : ℤ) → ChangesOnce ahead from a b → from ≤ℤ (l -ℤ a) → (l -ℤ b) <ℤ from → IsMapped ahead l NoInstant
never ahead from a b l s first second u shows =
    by_side ahead from a b u s (λ lt e. omega (arith, ints, shows, e, lt, first)) (λ ge e. omega (arith, ints, shows, e, ge, second))

pub twice : (ahead : ℤ → ℤ) (from a b l : ℤ) → ChangesOnce ahead from a b → (l -ℤ a) <ℤ from → from ≤ℤ (l -ℤ b) → IsMapped ahead l (Ambiguous a b)
twice ahead from a b l s first second = (
  omega (arith, ints, first, second),
  λ u. (
    λ shows. by_side ahead from a b u s (λ lt e. inl (omega (arith, ints, shows, e))) (λ ge e. inr (omega (arith, ints, shows, e))),
    λ is. ⊎_elim
        (λ first_is. by_side ahead from a b u s (λ lt e. omega (arith, ints, first_is, e)) (λ ge e. absurd (omega (arith, ints, first_is, ge, first))))
        (λ second_is. by_side ahead from a b u s (λ lt e. absurd (omega (arith, ints, second_is, lt, second))) (λ ge e. omega (arith, ints, second_is, e)))
        is,
  ),
)
