use Rattle.std.proofs.Common.{subst, arith}
use Rattle.chrono_datetime.proofs.Signed.{casts}
use Rattle.chrono_rules.specs.RuleCycles.{RepeatsAfter}
use Rattle.chrono_rules.proofs.rule.Rule.cycle_behind.Goals as goal

pub returns-then-number-le-FIRST_OF_LAST_366_DAYS-clause-repeats : goal.returns-then-number-le-FIRST_OF_LAST_366_DAYS-clause-repeats
returns-then-number-le-FIRST_OF_LAST_366_DAYS-clause-repeats c =
    subst (RepeatsAfter c.args.self.now) (omega (arith, casts, c.in_ok-day.ensures.moved, c.cycle.ensures.low, c.cycle.ensures.high)) c.cycle.ensures.repeats
