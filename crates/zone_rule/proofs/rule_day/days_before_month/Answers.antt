use Rattle.std.proofs.Common.{arith}
use Rattle.std.proofs.lemmas.Bool.Decides.{nat_tests}
use Rattle.zone_rule.proofs.Places.{early_month, late_month}
use Rattle.zone_rule.proofs.rule_day.days_before_month.Goals as goal

pub returns-then-month-gt2-clause-days : goal.returns-then-month-gt2-clause-days
returns-then-month-gt2-clause-days c =
    let late = c.if-month-gt2.true in
    late_month c.args.month (grind (arith, nat_tests, late)) c.requires.1

pub returns-else-month-gt2-clause-days : goal.returns-else-month-gt2-clause-days
returns-else-month-gt2-clause-days c =
    let early = c.if-month-gt2.false in
    early_month c.args.month c.requires.0 (grind (arith, nat_tests, early))
