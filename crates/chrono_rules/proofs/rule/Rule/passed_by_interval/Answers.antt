use Rattle.std.proofs.Common.{arith, ◌-ℤ◌, unsigned_abs}
use Rattle.chrono_datetime.proofs.Signed.{casts, signed}
use Rattle.chrono_rules.specs.Periods.{period_of}
use Rattle.chrono_rules.proofs.PeriodsLeftOut.{period-rises}
use Rattle.chrono_rules.proofs.rule.Rule.passed_by_interval.Goals as goal

pub returns-clause-passed : goal.returns-clause-passed
returns-clause-passed c = λ d low high.
    let r = c.args.self.now in
    let j = unsigned_abs (period_of r.frequency r.week_start d -ℤ period_of r.frequency r.week_start c.args.day) in
    let rises = period-rises r.frequency r.week_start c.args.day d low in
    let less = c.days_to_period.ensures.earlier d low (omega (arith, casts, high)) in
    c.periods_left_out-periods.ensures.left_out d j (omega (arith, casts, rises, less)) (omega (arith, signed, rises))
