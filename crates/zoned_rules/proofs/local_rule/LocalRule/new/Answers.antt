use Rattle.std.proofs.Common.{◌≡◌, ◌&&◌, ap}
use Rattle.zoned_rules.specs.LocalTimes.{has_one_time, is_above_hours, lacks_times}
use Rattle.zoned_rules.specs.declared.clock_steps.ClockSteps.{ClockSteps}
use Rattle.zoned_rules.proofs.local_rule.LocalRule.new.Goals as goal

pub returns-clause-exists : goal.returns-clause-exists
unfolding is_above_hours
returns-clause-exists c =
    let is : has_one_time c.each_day.result.unit c.args.times ≡ lacks_times c.args.times = ap (λ (s : ClockSteps). is_above_hours s.unit && lacks_times c.args.times) c.each_day.ensures in
    rw is at c.by_clock.ensures.exists
