use Rattle.zoned_rules.proofs.CountedUnits.{apart_high, apart_low}
use Rattle.zoned_rules.proofs.local_rule.LocalRule.interval_units.Goals as goal

pub returns-clause-low : goal.returns-clause-low
returns-clause-low c = apart_low c.number.result c.number-own.result (c.number.ensures.low, c.number.ensures.high) (c.number-own.ensures.low, c.number-own.ensures.high)

pub returns-clause-high : goal.returns-clause-high
returns-clause-high c = apart_high c.number.result c.number-own.result (c.number.ensures.low, c.number.ensures.high) (c.number-own.ensures.low, c.number-own.ensures.high)
