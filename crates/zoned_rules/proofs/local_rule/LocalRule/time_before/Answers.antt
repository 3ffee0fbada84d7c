use Rattle.std.proofs.Common.{◌≡◌, rules, ◌-◌, arith}
use Rattle.chrono_datetime.proofs.Signed.{casts}
use Rattle.zoned_rules.proofs.CountedUnits.{behind-back, interval_units-some, unit_number-rises}
use Rattle.zoned_rules.proofs.ListedTimes.{counted_and_listed, not_counted, not_listed}
use Rattle.zoned_rules.proofs.local_rule.LocalRule.time_before.Goals as goal

pub returns-then-behind-gt0-clause-passed : goal.returns-then-behind-gt0-clause-passed
returns-then-behind-gt0-clause-passed c = λ k low high.
    let r = c.args.self.now in
    let n = c.args.date in
    let j = c.args.end - 1 in
    let is_unit : c.self.inside.steps.unit ≡ r.steps.unit = search rules in
    not_counted r n k
    (behind-back r n n j k (interval_units-some r.steps) (unit_number-rises r.steps.unit n k j (omega (arith, high)))
    (omega (arith, casts, rw is_unit at (c.earlier_unit.ensures.passed n k low), c.units_behind-behind.ensures.value, c.units_behind-behind.ensures.few)))

pub returns-clause-time : goal.returns-clause-time
returns-clause-time c = λ e. counted_and_listed c.args.self.now c.args.date (c.args.end - 1) (omega (arith, c.units_behind-behind.ensures.value)) (c.listed_before.ensures.time e)

pub returns-clause-passed : goal.returns-clause-passed
returns-clause-passed c = λ k low high. not_listed c.args.self.now c.args.date k (c.listed_before.ensures.passed k low high)
