use Rattle.std.proofs.Common.{◌≡◌, arith, ◌-ℤ◌, to_z, of_z, w64}
use Rattle.chrono_datetime.proofs.Signed.{casts}
use Rattle.chrono_rules.specs.Periods.{period_of}
use Rattle.chrono_rules.proofs.PeriodsLeftOut.{off_interval, on_interval}
use Rattle.chrono_rules.proofs.rule.Rule.periods_left_out.Goals as goal

pub returns-clause-left_out : goal.returns-clause-left_out
returns-clause-left_out c = λ d j lt at.
    let r = c.args.self.now in
    let step : to_z w64 (of_z w64 c.step-step.result) ≡ c.step-step.result = omega (arith, casts, c.step-step.ensures.positive, c.step-step.ensures.few) in
    let apart : to_z w64 (of_z w64 c.periods_apart.result) ≡ period_of r.frequency r.week_start c.args.day -ℤ period_of r.frequency r.week_start c.args.start = omega (arith, casts, c.periods_apart.ensures.value, c.periods_apart.ensures.low, c.periods_apart.ensures.high, c.requires.first (omega arith), c.requires.low, c.requires.high) in
    off_interval r c.args.start c.args.day d c.step-step.result j c.remainder-behind.result c.step-step.ensures.value (rw (step, apart) at c.remainder-behind.ensures.value)
    (omega (arith, casts)) (omega (arith, casts, lt, c.remainder-behind.ensures.less, c.step-step.ensures.few)) at

pub returns-then-behind-eq0-clause-counts : goal.returns-then-behind-eq0-clause-counts
returns-then-behind-eq0-clause-counts c = λ none.
    let r = c.args.self.now in
    let step : to_z w64 (of_z w64 c.step-step.result) ≡ c.step-step.result = omega (arith, casts, c.step-step.ensures.positive, c.step-step.ensures.few) in
    let apart : to_z w64 (of_z w64 c.periods_apart.result) ≡ period_of r.frequency r.week_start c.args.day -ℤ period_of r.frequency r.week_start c.args.start = omega (arith, casts, c.periods_apart.ensures.value, c.periods_apart.ensures.low, c.periods_apart.ensures.high, c.requires.first (omega arith), c.requires.low, c.requires.high) in
    on_interval r c.args.start c.args.day c.step-step.result c.remainder-behind.result c.step-step.ensures.value (rw (step, apart) at c.remainder-behind.ensures.value) (omega arith)

pub returns-clause-counts : goal.returns-clause-counts
returns-clause-counts c = λ none. absurd (omega (arith, casts, none, c.remainder-behind.ensures.less, c.step-step.ensures.few))
