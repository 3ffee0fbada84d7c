use Rattle.std.proofs.Common.{◌≡◌, ◌+◌, pos, ◌+ℤ◌, ◌≤ℤ◌, arith}
use Rattle.std.proofs.lemmas.Int.{ints}
use Rattle.zoned_rules.proofs.WholeDays.{days-more-of}
use Rattle.zoned_rules.proofs.local_rule.LocalRule.count_further.Goals as goal

pub overflow_sub-seen : goal.overflow_sub-seen
overflow_sub-seen c =
    let low : c.date-start.result ≤ℤ (c.args.day +ℤ pos 1) = omega (arith, ints, c.if-num_days_from_ce.false, c.num_days_from_ce.ensures.value, c.num_days_from_ce-else-lt.ensures.value) in
    let high : c.args.day ≤ℤ c.in_ok-next.next = omega (arith, ints, c.in_ok-next.ensures.moved, c.requires.order, c.requires.later) in
    omega (arith, days-more-of c.args.self.now _ c.date-start.result c.args.day c.in_ok-next.next c.count_to.result c.count_to-2.result c.self.view_is c.date-start.ensures c.count_to.ensures c.count_to-2.ensures low high)

pub returns-clause-value : goal.returns-clause-value
returns-clause-value c =
    let low : c.date-start.result ≤ℤ (c.args.day +ℤ pos 1) = omega (arith, ints, c.if-num_days_from_ce.false, c.num_days_from_ce.ensures.value, c.num_days_from_ce-else-lt.ensures.value) in
    let high : c.args.day ≤ℤ c.in_ok-next.next = omega (arith, ints, c.in_ok-next.ensures.moved, c.requires.order, c.requires.later) in
    omega (arith, days-more-of c.args.self.now _ c.date-start.result c.args.day c.in_ok-next.next c.count_to.result c.count_to-2.result c.self.view_is c.date-start.ensures c.count_to.ensures c.count_to-2.ensures low high)
