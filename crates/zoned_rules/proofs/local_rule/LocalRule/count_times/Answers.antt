use Rattle.std.proofs.Common.{arith, sym, ◌∙◌}
use Rattle.zoned_rules.specs.LocalTimes.{is_counted_time}
use Rattle.zoned_rules.proofs.CountedSeconds.{count-one, count-passed, count-zero}
use Rattle.zoned_rules.proofs.local_rule.LocalRule.count_times.Goals as goal

pub loop-second-init : goal.loop-second-init
loop-second-init c = (omega arith, omega arith, count-zero (is_counted_time c.args.self.now c.args.date))

pub loop-second-preserved : goal.loop-second-preserved
loop-second-preserved c =
    let inv = c.loop-second.invariant in
    let found = c.in-Some.ensures in (
      omega (arith, found.within),
      omega (arith, inv.1, found.not_before),
      omega (arith, inv.2, count-one (is_counted_time c.args.self.now c.args.date) c.loop-second.from c.in-Some.second found.not_before found.least found.time),
    )

pub loop-second-smaller : goal.loop-second-smaller
loop-second-smaller c = let found = c.in-Some.ensures in omega (arith, found.within, found.not_before)

pub returns : goal.returns
returns c = record {
  value = c.loop-second.invariant.2 ∙ sym (count-passed (is_counted_time c.args.self.now c.args.date) c.loop-second.from 86_400 c.loop-second.invariant.0 c.in_default.ensures.none);
}
