use Rattle.std.proofs.Common.{◌≡◌, rules, arith}
use Rattle.chrono_datetime.proofs.Signed.{casts}
use Rattle.zoned_rules.proofs.CountedUnits.{behind-ahead, interval_units-some, unit_number-rises}
use Rattle.zoned_rules.proofs.ListedTimes.{counted_and_listed, not_counted, not_listed}
use Rattle.zoned_rules.proofs.local_rule.LocalRule.time_from.Goals as goal

pub returns-then-units_behind-gt0-clause-passed : goal.returns-then-units_behind-gt0-clause-passed
returns-then-units_behind-gt0-clause-passed c = λ k low high.
    let r = c.args.self.now in
    let n = c.args.date in
    let j = c.args.second in
    let is_unit : c.self.inside.steps.unit ≡ r.steps.unit = search rules in
    not_counted r n k
    (behind-ahead r n n j k (interval_units-some r.steps) (omega (arith, c.units_behind.ensures.value)) (unit_number-rises r.steps.unit n j k low)
    (omega (arith, casts, rw is_unit at (c.later_unit.ensures.passed n k high), c.units_to_next.ensures.value, c.units_to_next.ensures.some, c.units_to_next.ensures.few)))

pub returns-clause-time : goal.returns-clause-time
returns-clause-time c = λ e. counted_and_listed c.args.self.now c.args.date c.args.second (omega (arith, c.units_behind.ensures.value)) (c.listed_from.ensures.time e)

pub returns-clause-passed : goal.returns-clause-passed
returns-clause-passed c = λ k low high. not_listed c.args.self.now c.args.date k (c.listed_from.ensures.passed k low high)
