use Rattle.std.proofs.Common.{arith}
use Rattle.std.proofs.lemmas.Int.{ints}
use Rattle.chrono_rules.specs.Instances.{is_instance}
use Rattle.zoned_rules.proofs.WholeDays.{days-none, days-one}
use Rattle.zoned_rules.proofs.local_rule.LocalRule.count_days.Goals as goal

pub loop-seen-init : goal.loop-seen-init
loop-seen-init c = let passed = c.pass_days-passed.ensures in (passed.order, passed.within, passed.few, passed.value)

pub returns-in_default-clause-value : goal.returns-in_default-clause-value
returns-in_default-clause-value c =
    let inv = c.loop-seen.invariant in
    days-none (is_instance c.args.self.now.days c.args.self.now.start.date) c.args.day c.loop-seen.last c.args.end c.loop-seen.seen inv.3 inv.0 inv.1 c.in_default.ensures.none

pub loop-seen-preserved : goal.loop-seen-preserved
loop-seen-preserved c =
    let inv = c.loop-seen.invariant in
    let next = c.in-Some.ensures in (
      omega (arith, ints, inv.0, next.later),
      next.within,
      omega (arith, c.loop-seen-test.true),
      days-one (is_instance c.args.self.now.days c.args.self.now.start.date) c.args.day c.loop-seen.last c.in-Some.next c.loop-seen.seen inv.3 inv.0 next.later next.least next.instance,
    )
