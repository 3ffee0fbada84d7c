use Rattle.std.proofs.Common.{arith, rules, to_z-of_z, FitsSigned, w64, ◌≡◌, ◌≤◌, ◌+◌, ◌*◌, ℤ, pos, ◌+ℤ◌, ap, ◌∙◌}
use Rattle.chrono_clock.specs.Duration.{nanos_of}
use Rattle.chrono_clock.specs.Time.{TimeOfDay, place, leap_landing}
use Rattle.chrono_text.proofs.Signed.{signed}
use Rattle.chrono_clock.proofs.naive_time.NaiveTime.moved_from_leap.Goals as goal
use Rattle.chrono_clock.proofs.naive_time.NaiveTime.moved_from_leap.Goals.{After-landed_on_leap_line}

-- the point that the code lands at
point_is : (c : After-landed_on_leap_line) → nanos_of c.carried-secs.result.0 c.carried-secs.result.1 ≡ pos (place c.args.self.now) +ℤ c.args.rhs
point_is c =
    let fraction_is : c.self.inside.frac ≡ c.args.self.now.fraction = ap (λ (t : TimeOfDay). t.fraction) c.self.view_is in
    let leap : 1_000_000_000 ≤ c.self.inside.frac = omega (arith, fraction_is, c.requires) in
    let same : nanos_of c.carried-secs.result.0 c.carried-secs.result.1 ≡ pos (c.self.inside.secs * 1_000_000_000 + c.self.inside.frac) +ℤ c.args.rhs = omega (arith, signed, c.carried-secs.ensures.same) in
    same ∙ ap (λ (t : TimeOfDay). pos (place t) +ℤ c.args.rhs) c.self.view_is

pub returns-clause-time : goal.returns-clause-time
returns-clause-time c =
    let fits : FitsSigned w64 c.carried-secs.result.0 = search rules in
    let landed = simp to_z-of_z at c.landed_on_leap_line.ensures.time in
    landed ∙ ap (λ (p : ℤ). (leap_landing c.self.inside.secs p).time) (point_is c) ∙ ap (λ (t : TimeOfDay). (leap_landing t.second (pos (place c.args.self.now) +ℤ c.args.rhs)).time) c.self.view_is

pub returns-clause-days : goal.returns-clause-days
returns-clause-days c =
    let fits : FitsSigned w64 c.carried-secs.result.0 = search rules in
    let landed = simp to_z-of_z at c.landed_on_leap_line.ensures.days in
    landed ∙ ap (λ (p : ℤ). (leap_landing c.self.inside.secs p).day) (point_is c) ∙ ap (λ (t : TimeOfDay). (leap_landing t.second (pos (place c.args.self.now) +ℤ c.args.rhs)).day) c.self.view_is
