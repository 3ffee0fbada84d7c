use Rattle.std.proofs.Common.{arith, rules, ℤ, pos, ◌≡◌, ◌≢◌, ◌+ℤ◌, ◌*ℤ◌, int_div, int_rem, FitsSigned, to_z, to_z-of_z, w32, w64, sym, subst, ◌∙◌}
use mir.Syntax.{w128}
use Rattle.std.proofs.lemmas.Int.{to_z_pos}
use Rattle.chrono_clock.specs.Duration.{IsDuration}
use Rattle.chrono_text.proofs.Signed.{signed}
use Rattle.chrono_clock.proofs.DurationLemmas.{IsDuration-two_step_quotient, two_step_quotient-by_parts, SomeIff-same}
use Rattle.chrono_clock.proofs.time_delta.TimeDelta.checked_div.Goals as goal

pub overflow_add-rest : goal.overflow_add-rest
overflow_add-rest c =
    omega (arith, signed, c.remainder.ensures.bound, c.quotient-rest.ensures.bound, c.quotient-nanos.ensures.bound, c.self.invariant.0)

pub returns : goal.returns
returns c =
    let s = c.self.inside.secs in
    let n = c.self.inside.nanos in
    let r = c.args.rhs in
    let quotient = c.quotient-secs.result in
    let left = c.remainder.result in
    let rest = c.quotient-rest.result in
    let nanos = c.quotient-nanos.result in
    let secs_fit : FitsSigned w64 s = omega (arith, signed, c.self.invariant.1) in
    let rhs_fits : FitsSigned w32 r = c.ranges.rhs in
    let quotient_fits : FitsSigned w64 quotient = search rules in
    let left_fits : FitsSigned w64 left = search rules in
    let rest_fits : FitsSigned w64 rest = search rules in
    let nanos_fit : FitsSigned w64 nanos = search rules in
    let quotient_fits_wide : FitsSigned w128 quotient = omega (arith, signed, quotient_fits) in
    let scaled_fits : FitsSigned w64 (left *ℤ pos 1_000_000_000) = omega (arith, signed, c.remainder.ensures.bound) in
    let stored_nanos : to_z w64 n ≡ pos n = to_z_pos w64 n (omega (arith, c.self.invariant.0)) in
    let quotient_is : quotient ≡ int_div s r = simp to_z-of_z at c.quotient-secs.ensures.value in
    let left_is : left ≡ int_rem s r = simp to_z-of_z at c.remainder.ensures.value in
    let rest_is : rest ≡ int_div (left *ℤ pos 1_000_000_000) r = simp to_z-of_z at c.quotient-rest.ensures.value in
    let nanos_is : nanos ≡ int_div (pos n) r = simp (to_z-of_z, stored_nanos) at c.quotient-nanos.ensures.value in
    let sum_fits : FitsSigned w64 (rest +ℤ nanos) = omega (arith, signed, c.remainder.ensures.bound, c.quotient-rest.ensures.bound, c.quotient-nanos.ensures.bound, c.self.invariant.0) in
    let parts : quotient *ℤ pos 1_000_000_000 +ℤ (rest +ℤ nanos) ≡ int_div s r *ℤ pos 1_000_000_000 +ℤ (int_div (int_rem s r *ℤ pos 1_000_000_000) r +ℤ int_div (pos n) r) = cc (quotient_is, left_is, rest_is, nanos_is) in
    let whole = parts ∙ two_step_quotient-by_parts s r n c.args.self.now c.self.invariant.0 c.self.view_is in
    let D : ℤ → Type 0 = IsDuration in
    let nonzero : r ≢ pos 0 = grind (arith, signed, to_z-of_z) in
    SomeIff-same c.from_parts.result _ _ _ _ (λ _. nonzero)
    (λ _. subst D (sym whole) (IsDuration-two_step_quotient s r n c.args.self.now c.self.invariant.0 c.self.invariant.1 c.self.view_is))
    whole (simp to_z-of_z at c.from_parts.ensures)
