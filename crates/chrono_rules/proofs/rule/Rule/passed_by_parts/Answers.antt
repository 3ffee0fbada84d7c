use Rattle.std.proofs.Common.{arith}
use Rattle.chrono_datetime.proofs.Signed.{casts}
use Rattle.chrono_rules.proofs.NamedDays.{found, named_by_all}
use Rattle.chrono_rules.proofs.rule.Rule.passed_by_parts.Goals as goal

pub returns-then-days-gt0-clause-passed : goal.returns-then-days-gt0-clause-passed
returns-then-days-gt0-clause-passed c = λ d low high. c.passed_by_month_day-days.ensures.passed d low (omega (arith, casts, high))

pub returns-then-weekdays-gt0-clause-passed : goal.returns-then-weekdays-gt0-clause-passed
returns-then-weekdays-gt0-clause-passed c = λ d low high. c.passed_by_weekday-weekdays.ensures.passed d low (omega (arith, casts, high))

pub returns-then-year_days-gt0-clause-passed : goal.returns-then-year_days-gt0-clause-passed
returns-then-year_days-gt0-clause-passed c = λ d low high. c.passed_by_year_day-year_days.ensures.passed d low (omega (arith, casts, high))

pub returns-then-weeks-gt0-clause-passed : goal.returns-then-weeks-gt0-clause-passed
returns-then-weeks-gt0-clause-passed c = λ d low high. c.passed_by_week-weeks.ensures.passed d low (omega (arith, casts, high))

pub returns-clause-member : goal.returns-clause-member
returns-clause-member c = λ none counts before.
    let months = c.passed_by_month-months.ensures in
    let days = c.passed_by_month_day-days.ensures in
    let weekdays = c.passed_by_weekday-weekdays.ensures in
    found c.args.self.now c.args.start c.args.day c.requires before counts
    (named_by_all c.args.self.now c.args.start c.args.day (weekdays.filled (omega (arith, c.if-weekdays-gt0.false))) (days.filled (omega (arith, c.if-days-gt0.false))) (months.filled (omega (arith, casts, c.if-months-gt0.false)))
    (months.named (omega (arith, casts, c.if-months-gt0.false))) (days.named (omega (arith, c.if-days-gt0.false))) (weekdays.named (omega (arith, c.if-weekdays-gt0.false)))
    (c.passed_by_year_day-year_days.ensures.named (omega (arith, c.if-year_days-gt0.false))) (c.passed_by_week-weeks.ensures.named (omega (arith, c.if-weeks-gt0.false))))
    (c.passed_by_position.ensures.named (omega (arith, casts, none, c.passed_by_position.ensures.low, c.passed_by_position.ensures.high)))
