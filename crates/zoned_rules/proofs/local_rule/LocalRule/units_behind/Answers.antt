use Rattle.std.proofs.Common.{◌≡◌, rules, ap, pos, ◌-ℤ◌, of_z, to_z, w64, arith, sym}
use Rattle.chrono_datetime.proofs.Signed.{casts}
use Rattle.zoned_rules.specs.LocalTimes.{unit_number, units_behind}
use Rattle.zoned_rules.specs.Private.{interval_units}
use Rattle.zoned_rules.specs.declared.clock_steps.ClockSteps.{ClockSteps}
use Rattle.zoned_rules.proofs.CountedUnits.{units_behind-one}
use Rattle.zoned_rules.proofs.local_rule.LocalRule.units_behind.Goals as goal

pub returns-clause-value : goal.returns-clause-value
unfolding units_behind
returns-clause-value c =
    let r = c.args.self.now in
    let is_steps : c.self.inside.steps ≡ r.steps = search rules in
    let step : to_z w64 (of_z w64 c.from.result) ≡ pos (interval_units r.steps) = omega (arith, casts, c.from.ensures, c.step.ensures.value, ap interval_units is_steps, c.step.type_inv) in
    let apart : to_z w64 (of_z w64 c.interval_units.result) ≡ unit_number r.steps.unit c.args.date c.args.second -ℤ unit_number r.steps.unit r.start.date r.start.time.second = omega (arith, casts, c.interval_units.ensures.value, c.interval_units.ensures.low, c.interval_units.ensures.high) in
    rw (step, apart) at c.remainder.ensures.value

pub returns-then-self-le1-clause-value : goal.returns-then-self-le1-clause-value
returns-then-self-le1-clause-value c =
    let r = c.args.self.now in
    let is_steps : c.self.inside.steps ≡ r.steps = search rules in
    sym (units_behind-one r c.args.date c.args.second (omega (arith, ap (λ (s : ClockSteps). s.interval) is_steps)))
