use Rattle.std.proofs.Common.{◌≡◌, ◌%◌, rules, arith, subst, sym, ◌∙◌}
use Rattle.zoned_rules.specs.LocalTimes.{is_counted_time}
use Rattle.zoned_rules.specs.Private.{interval_units, units_of_day}
use Rattle.zoned_rules.specs.declared.clock_steps.ClockSteps.{ClockSteps}
use Rattle.zoned_rules.proofs.CountedSeconds.{count-same}
use Rattle.zoned_rules.proofs.CountedUnits.{interval_units-some, same_times, whole_divisor}
use Rattle.zoned_rules.proofs.local_rule.LocalRule.times_of_each_day.Goals as goal

pub returns : goal.returns
returns c =
    let r = c.args.self.now in
    let steps = c.self.inside.steps in
    let is_steps : steps ≡ r.steps = search rules in
    let common = c.common_interval in
    let divisor = whole_divisor (interval_units steps) common.result (interval_units-some steps) common.ensures.interval (omega (arith, c.step.ensures.value, c.if-common_interval-step.false)) common.ensures.positive in
    let whole = subst (λ (s : ClockSteps). units_of_day s.unit % interval_units s ≡ 0) is_steps (subst (λ n. units_of_day steps.unit % n ≡ 0) divisor common.ensures.day) in
    record { value = λ d. count-same (is_counted_time r d) (is_counted_time r c.date.result) 86_400 (λ k lt. same_times r c.date.result d k whole) ∙ sym c.count_times.ensures.value }
