use Rattle.std.proofs.Common.{arith, rules, ◌+ℤ◌, ◌*ℤ◌, to_z-of_z, FitsSigned, w64, pos, unsigned_abs}
use mir.Syntax.{w128}
use Rattle.chrono_clock.specs.Duration.{nanos_of}
use Rattle.chrono_text.proofs.Signed.{signed}
use Rattle.chrono_clock.proofs.DurationLemmas.{SomeIff-along, nanos_of-carried}
use Rattle.chrono_clock.proofs.time_delta.ops.from_parts.Goals as goal

pub returns : goal.returns
returns c =
    let s = c.args.secs in
    let x = c.args.nanos in
    let q = c.div_euclid-carry.result in
    let r = c.rem_euclid.result in
    let nanos_fit : FitsSigned w64 x = c.ranges.nanos in
    let secs_fit : FitsSigned w128 s = c.ranges.secs in
    let carry_fits : FitsSigned w64 q = search rules in
    let rest_fits : FitsSigned w64 r = search rules in
    let carry_fits_wide : FitsSigned w128 q = omega (arith, signed, carry_fits) in
    let sum_fits : FitsSigned w128 (s +ℤ q) = omega (arith, signed, carry_fits) in
    let e = nanos_of-carried s x q r (simp to_z-of_z at c.div_euclid-carry.ensures) (simp to_z-of_z at c.rem_euclid.ensures.value) in
    SomeIff-along c.from_floor.result (nanos_of (s +ℤ q) (unsigned_abs r)) (s *ℤ pos 1_000_000_000 +ℤ x) e (simp to_z-of_z at c.from_floor.ensures)
