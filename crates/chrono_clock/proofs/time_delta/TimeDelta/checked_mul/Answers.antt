use Rattle.std.proofs.Common.{arith, ◌≡◌, ◌^◌, ◌+ℤ◌, ◌*ℤ◌, to_z, to_z-of_z, FitsSigned, w32, w64, pos, ap, ◌∙◌, lit<}
use Rattle.std.proofs.lemmas.Int.{to_z_pos, fits_signed_mul}
use mir.Syntax.{w128}
use Rattle.chrono_text.proofs.Signed.{signed}
use Rattle.chrono_clock.proofs.DurationLemmas.{SomeIff-along, nanos_of-times}
use Rattle.chrono_clock.proofs.time_delta.TimeDelta.checked_mul.Goals as goal

pub returns : goal.returns
returns c =
    let s = c.self.inside.secs in
    let n = c.self.inside.nanos in
    let r = c.args.rhs in
    let secs_fit : FitsSigned w64 s = omega (arith, signed, c.self.invariant.1) in
    let secs_fit_wide : FitsSigned w128 s = omega (arith, signed, c.self.invariant.1) in
    let rhs_fits : FitsSigned w32 r = c.ranges.rhs in
    let rhs_fits_long : FitsSigned w64 r = omega (arith, signed) in
    let rhs_fits_wide : FitsSigned w128 r = omega (arith, signed) in
    let secs_product_fits : FitsSigned w128 (s *ℤ r) = fits_signed_mul w128 s r (2 ^ 63) (2 ^ 31) (omega (arith, signed, c.self.invariant.1)) (omega (arith, signed)) (lit< tt) in
    let nanos_product_fits : FitsSigned w64 (pos n *ℤ r) = fits_signed_mul w64 (pos n) r 1_000_000_000 (2 ^ 31) (omega (arith, c.self.invariant.0)) (omega (arith, signed)) (lit< tt) in
    let stored_nanos : to_z w64 n ≡ pos n = to_z_pos w64 n (omega (arith, c.self.invariant.0)) in
    SomeIff-along c.from_parts.result ((s *ℤ r) *ℤ pos 1_000_000_000 +ℤ pos n *ℤ r) (c.args.self.now *ℤ r)
    (nanos_of-times s n r ∙ ap (λ x. x *ℤ r) c.self.view_is) (simp (to_z-of_z, stored_nanos) at c.from_parts.ensures)

pub overflow_mul-self-inside : goal.overflow_mul-self-inside
overflow_mul-self-inside c =
    let s = c.self.inside.secs in
    let r = c.args.rhs in
    let secs_fit : FitsSigned w64 s = omega (arith, signed, c.self.invariant.1) in
    let secs_fit_wide : FitsSigned w128 s = omega (arith, signed, c.self.invariant.1) in
    let rhs_fits : FitsSigned w32 r = c.ranges.rhs in
    let rhs_fits_wide : FitsSigned w128 r = omega (arith, signed) in
    let product_fits : FitsSigned w128 (s *ℤ r) = fits_signed_mul w128 s r (2 ^ 63) (2 ^ 31) (omega (arith, signed, c.self.invariant.1)) (omega (arith, signed)) (lit< tt) in
    simp to_z-of_z product_fits

pub overflow_mul-self-inside-2 : goal.overflow_mul-self-inside-2
overflow_mul-self-inside-2 c =
    let n = c.self.inside.nanos in
    let r = c.args.rhs in
    let rhs_fits : FitsSigned w32 r = c.ranges.rhs in
    let rhs_fits_long : FitsSigned w64 r = omega (arith, signed) in
    let product_fits : FitsSigned w64 (pos n *ℤ r) = fits_signed_mul w64 (pos n) r 1_000_000_000 (2 ^ 31) (omega (arith, c.self.invariant.0)) (omega (arith, signed)) (lit< tt) in
    let stored_nanos : to_z w64 n ≡ pos n = to_z_pos w64 n (omega (arith, c.self.invariant.0)) in
    simp (to_z-of_z, stored_nanos) product_fits
