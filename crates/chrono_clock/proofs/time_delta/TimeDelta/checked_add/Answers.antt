use Rattle.std.proofs.Common.{arith, rules, to_z-of_z, FitsSigned, w64, ◌+ℤ◌, ◌∙◌}
use Rattle.chrono_clock.specs.Duration.{nanos_of}
use Rattle.chrono_text.proofs.Signed.{signed}
use Rattle.chrono_clock.proofs.DurationLemmas.{SomeIff-along}
use Rattle.chrono_clock.proofs.time_delta.TimeDelta.checked_add.Goals as goal

pub returns : goal.returns
returns c =
    let fits : FitsSigned w64 c.carried-secs.result.0 = search rules in
    SomeIff-along c.from_stored.result (nanos_of c.carried-secs.result.0 c.carried-secs.result.1) (c.args.self.now +ℤ c.args.rhs.now) (c.carried-secs.ensures.same ∙ omega (arith, signed)) (simp to_z-of_z at c.from_stored.ensures)
