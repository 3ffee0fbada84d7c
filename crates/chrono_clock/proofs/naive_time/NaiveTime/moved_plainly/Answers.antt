use Rattle.std.proofs.Common.{arith, rules, to_z-of_z, FitsSigned, w64, ◌≡◌, ◌+◌, ◌*◌, ℤ, pos, ◌+ℤ◌, ap, ◌∙◌}
use Rattle.chrono_clock.specs.Duration.{nanos_of}
use Rattle.chrono_clock.specs.Time.{TimeOfDay, place, plain_landing}
use Rattle.chrono_text.proofs.Signed.{signed}
use Rattle.chrono_clock.proofs.naive_time.NaiveTime.moved_plainly.Goals as goal
use Rattle.chrono_clock.proofs.naive_time.NaiveTime.moved_plainly.Goals.{After-landed}

-- the point that the code lands at
point_is : (c : After-landed) → nanos_of c.carried-secs.result.0 c.carried-secs.result.1 ≡ pos (place c.args.self.now) +ℤ c.args.rhs
point_is c =
    let same : nanos_of c.carried-secs.result.0 c.carried-secs.result.1 ≡ pos (c.self.inside.secs * 1_000_000_000 + c.self.inside.frac) +ℤ c.args.rhs = omega (arith, signed, c.carried-secs.ensures.same) in
    same ∙ ap (λ (t : TimeOfDay). pos (place t) +ℤ c.args.rhs) c.self.view_is

pub returns-clause-time : goal.returns-clause-time
returns-clause-time c =
    let fits : FitsSigned w64 c.carried-secs.result.0 = search rules in
    let landed = simp to_z-of_z at c.landed.ensures.time in
    landed ∙ ap (λ (p : ℤ). (plain_landing p).time) (point_is c)

pub returns-clause-days : goal.returns-clause-days
returns-clause-days c =
    let fits : FitsSigned w64 c.carried-secs.result.0 = search rules in
    let landed = simp to_z-of_z at c.landed.ensures.days in
    landed ∙ ap (λ (p : ℤ). (plain_landing p).day) (point_is c)
