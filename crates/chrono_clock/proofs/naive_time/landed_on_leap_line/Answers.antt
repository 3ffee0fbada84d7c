use Rattle.std.proofs.Common.{arith, to_z-of_z, FitsSigned, w64, ◌≡◌, ℕ, ◌+◌, ◌*◌, ℤ, pos, ◌-ℤ◌, unsigned_abs, ap, sym, ◌∙◌}
use Rattle.chrono_clock.specs.Duration.{nanos_of}
use Rattle.chrono_clock.specs.Time.{TimeOfDay, Landing, plain_landing}
use Rattle.chrono_text.proofs.Signed.{signed}
use Rattle.chrono_clock.proofs.TimeLemmas.{leap_landing-before, leap_landing-inside, leap_landing-past}
use Rattle.chrono_clock.proofs.naive_time.landed_on_leap_line.Goals as goal

-- a second less, in nanoseconds
second_less : (s : ℤ) (n : ℕ) → nanos_of (s -ℤ pos 1) n ≡ nanos_of s n -ℤ pos 1_000_000_000
second_less s n = omega (arith, signed)

pub overflow_sub-secs : goal.overflow_sub-secs
overflow_sub-secs c = omega (arith, signed)

pub overflow_add-time : goal.overflow_add-time
overflow_add-time c = omega (arith, signed)

pub overflow_add-start : goal.overflow_add-start
overflow_add-start c = omega (arith, signed)

pub returns-then-secs-start-clause-time : goal.returns-then-secs-start-clause-time
returns-then-secs-start-clause-time c =
    let fits : FitsSigned w64 c.args.secs = c.ranges.secs in
    let landed = simp to_z-of_z at c.landed.ensures.time in
    landed ∙ ap (λ (l : Landing). l.time) (sym (leap_landing-before c.args.start (nanos_of c.args.secs c.args.nanos) (omega (arith, signed))))

pub returns-then-secs-start-clause-days : goal.returns-then-secs-start-clause-days
returns-then-secs-start-clause-days c =
    let fits : FitsSigned w64 c.args.secs = c.ranges.secs in
    let landed = simp to_z-of_z at c.landed.ensures.days in
    landed ∙ ap (λ (l : Landing). l.day) (sym (leap_landing-before c.args.start (nanos_of c.args.secs c.args.nanos) (omega (arith, signed))))

pub returns-then-secs-start-2-clause-time : goal.returns-then-secs-start-2-clause-time
returns-then-secs-start-2-clause-time c =
    let fits : FitsSigned w64 c.args.secs = c.ranges.secs in
    let less_fits : FitsSigned w64 (c.args.secs -ℤ pos 1) = omega (arith, signed) in
    let landed = simp to_z-of_z at c.landed-then-secs-start-2.ensures.time in
    landed ∙ ap (λ (p : ℤ). (plain_landing p).time) (second_less c.args.secs c.args.nanos)
    ∙ ap (λ (l : Landing). l.time) (sym (leap_landing-past c.args.start (nanos_of c.args.secs c.args.nanos) (omega (arith, signed))))

pub returns-then-secs-start-2-clause-days : goal.returns-then-secs-start-2-clause-days
returns-then-secs-start-2-clause-days c =
    let fits : FitsSigned w64 c.args.secs = c.ranges.secs in
    let less_fits : FitsSigned w64 (c.args.secs -ℤ pos 1) = omega (arith, signed) in
    let landed = simp to_z-of_z at c.landed-then-secs-start-2.ensures.days in
    landed ∙ ap (λ (p : ℤ). (plain_landing p).day) (second_less c.args.secs c.args.nanos)
    ∙ ap (λ (l : Landing). l.day) (sym (leap_landing-past c.args.start (nanos_of c.args.secs c.args.nanos) (omega (arith, signed))))

pub returns-clause-time : goal.returns-clause-time
returns-clause-time c =
    let at_fraction : ℕ → TimeOfDay = λ f. record { second = c.args.start; fraction = f } in
    let fraction : c.args.nanos + 1_000_000_000 ≡ unsigned_abs (nanos_of c.args.secs c.args.nanos -ℤ pos (c.args.start * 1_000_000_000)) = omega (arith, signed) in
    ap at_fraction fraction
    ∙ ap (λ (l : Landing). l.time) (sym (leap_landing-inside c.args.start (nanos_of c.args.secs c.args.nanos) (omega (arith, signed)) (omega (arith, signed))))

pub returns-clause-days : goal.returns-clause-days
returns-clause-days c = ap (λ (l : Landing). l.day) (sym (leap_landing-inside c.args.start (nanos_of c.args.secs c.args.nanos) (omega (arith, signed)) (omega (arith, signed))))
