use Rattle.std.proofs.Common.{arith}
use Rattle.chrono_datetime.proofs.Signed.{casts, signed}
use Rattle.chrono_rules.proofs.Passed.{behind_until}
use Rattle.chrono_rules.proofs.Repeated.{not_after-count, not_after-never, not_after-until}
use Rattle.chrono_rules.proofs.rule.Rule.end_of_until.Goals as goal

pub returns-in-Never-clause-inside : goal.returns-in-Never-clause-inside
returns-in-Never-clause-inside c = λ d less. not_after-never c.args.self.now.end d c.in-Never.is

pub returns-in-Count-clause-inside : goal.returns-in-Count-clause-inside
returns-in-Count-clause-inside c = λ d less. not_after-count c.args.self.now.end c.in-Count.field-0 d c.in-Count.is

pub returns-then-number-end-clause-behind : goal.returns-then-number-end-clause-behind
returns-then-number-end-clause-behind c = λ start d low before.
    behind_until c.args.self.now start c.in-Until.last d c.in-Until.is (omega (arith, signed, low, c.moved.ensures))

pub returns-then-number-end-clause-inside : goal.returns-then-number-end-clause-inside
returns-then-number-end-clause-inside c = λ d less.
    not_after-until c.args.self.now.end c.in-Until.last d c.in-Until.is (omega (arith, signed, less, c.moved.ensures))

pub returns-else-number-end-clause-inside : goal.returns-else-number-end-clause-inside
returns-else-number-end-clause-inside c = λ d less.
    not_after-until c.args.self.now.end c.in-Until.last d c.in-Until.is (omega (arith, casts, less, c.if-number-end.false, c.num_days_from_ce-number.ensures.value, c.num_days_from_ce-number.ensures.in_range, c.num_days_from_ce-end.ensures.value, c.num_days_from_ce-end.ensures.in_range))
