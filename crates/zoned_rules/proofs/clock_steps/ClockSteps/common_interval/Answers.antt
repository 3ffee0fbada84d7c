use Rattle.std.proofs.lemmas.Nat.Gcd.{mod-eq-zero_of_dvd}
use Rattle.zoned_rules.proofs.clock_steps.ClockSteps.common_interval.Goals as goal

pub returns-clause-interval : goal.returns-clause-interval
returns-clause-interval c = rw (← c.step.ensures.value) (mod-eq-zero_of_dvd c.common_divisor.result c.common_divisor.ensures.divisor.0)

pub returns-clause-day : goal.returns-clause-day
returns-clause-day c = rw (← c.units_of_day.ensures.value) (mod-eq-zero_of_dvd c.common_divisor.result c.common_divisor.ensures.divisor.1)
