-- Around a change the clock has two offsets, and each instant there is shown by one of them as the local time that stands for it.
use Rattle.std.proofs.Common.{◌≡◌, ◌⊎◌, inl, inr, ℤ, pos, ◌+ℤ◌, ◌-ℤ◌, ◌≤ℤ◌, ◌<ℤ◌, ⊎_elim, arith}
use Rattle.std.proofs.lemmas.Int.{by_lt_z, ints}
use Rattle.chrono_zoned.specs.Zones.{HoldsUntil}
use Rattle.chrono_zoned.proofs.SecondSums.{near}
use Rattle.zoned_rules.specs.LocalInstants.{IsInstantOf}
use Rattle.zoned_rules.proofs.Standing.{AreOffsets}

module _ (ahead : ℤ → ℤ) (s t from end one other : ℤ) (first : HoldsUntil ahead s t) (next : HoldsUntil ahead from end) (same : from ≡ t) (is_one : one ≡ ahead s) (is_other : other ≡ ahead from) where
  -- one of the two stretches holds at v
  one_of_two : (v : ℤ) → s ≤ℤ v → v <ℤ end → (ahead v ≡ one) ⊎ (ahead v ≡ other)
  one_of_two v low high =
      by_lt_z v t (λ lt. inl (omega (arith, ints, first v low lt, is_one)))
      (λ ge. inr (omega (arith, ints, next v (omega (arith, ints, ge, same)) high, is_other)))

  -- by one of their offsets the clock shows l at an instant, or would show it
  pub by_one_of_two : (l u : ℤ) → AreOffsets ahead → (s +ℤ pos 172_800) ≤ℤ u → u <ℤ end → IsInstantOf ahead l u → ((u +ℤ one) ≡ l) ⊎ ((u +ℤ other) ≡ l)
  by_one_of_two l u offsets low high (inl h) =
      ⊎_elim (λ e. inl (omega (arith, ints, e, h.shown))) (λ e. inr (omega (arith, ints, e, h.shown))) (one_of_two u (omega (arith, ints, low)) high)
  by_one_of_two l u offsets low high (inr h) =
      let c = h.change in
      let v : ℤ = c -ℤ pos 1 in
      let before : v <ℤ u = omega (arith, ints, h.past.earlier v (omega (arith, ints)), h.by) in
      let close : (u -ℤ pos 172_800) <ℤ c = omega (arith, ints, h.past.later, h.by, near (ahead c) (offsets c), near (ahead v) (offsets v)) in
      ⊎_elim (λ e. inl (omega (arith, ints, e, h.by))) (λ e. inr (omega (arith, ints, e, h.by))) (one_of_two v (omega (arith, ints, close, low)) (omega (arith, ints, before, high)))
