use Rattle.std.proofs.Common.{arith}
use Rattle.chrono_datetime.proofs.Signed.{casts}
use Rattle.chrono_rules.proofs.Passed.{behind_until}
use Rattle.chrono_rules.proofs.Repeated.{not_after-count, not_after-never, not_after-until}
use Rattle.chrono_rules.proofs.rule.Rule.end_before.Goals as goal

pub returns-then-behind-end-clause-behind : goal.returns-then-behind-end-clause-behind
returns-then-behind-end-clause-behind c = λ start d low before.
    behind_until c.args.self.now start c.in-Until.last d c.in-Until.is (omega (arith, casts, low, c.num_days_from_ce-behind.ensures.value, c.num_days_from_ce-behind.ensures.in_range))

pub returns-in-Never-clause-inside : goal.returns-in-Never-clause-inside
returns-in-Never-clause-inside c = λ d less. not_after-never c.args.self.now.end d c.in-Never.is

pub returns-in-Count-clause-inside : goal.returns-in-Count-clause-inside
returns-in-Count-clause-inside c = λ d less. not_after-count c.args.self.now.end c.in-Count.field-0 d c.in-Count.is

pub returns-then-behind-end-clause-inside : goal.returns-then-behind-end-clause-inside
returns-then-behind-end-clause-inside c = λ d less.
    not_after-until c.args.self.now.end c.in-Until.last d c.in-Until.is (omega (arith, casts, less, c.num_days_from_ce-behind.ensures.value, c.num_days_from_ce-behind.ensures.in_range))

pub returns-else-behind-end-clause-inside : goal.returns-else-behind-end-clause-inside
returns-else-behind-end-clause-inside c = λ d less.
    not_after-until c.args.self.now.end c.in-Until.last d c.in-Until.is (omega (arith, casts, less, c.ranges.end, c.if-behind-end.false, c.num_days_from_ce-behind.ensures.value, c.num_days_from_ce-behind.ensures.in_range))
