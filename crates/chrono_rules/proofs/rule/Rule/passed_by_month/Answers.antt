use Rattle.std.proofs.Common.{arith}
use Rattle.chrono_datetime.proofs.Signed.{casts}
use Rattle.chrono_rules.proofs.Months.{month_later}
use Rattle.chrono_rules.proofs.rule.Rule.passed_by_month.Goals as goal

pub returns-clause-passed : goal.returns-clause-passed
returns-clause-passed c = λ d low high.
    let on = month_later c.args.day d c.months_passed-months.result low (omega (arith, casts, c.days_to_month.ensures.earlier d low (omega (arith, casts, high)), c.from.ensures, c.months_passed-months.ensures.few)) in
    c.months_passed-months.ensures.passed d _ on.0 on.1
