use Rattle.std.proofs.Common.{subst, arith}
use Rattle.chrono_datetime.proofs.Signed.{casts}
use Rattle.chrono_rules.specs.RuleCycles.{RepeatsAfter}
use Rattle.chrono_rules.proofs.rule.Rule.cycle_before.Goals as goal

pub returns-in-Some-clause-repeats : goal.returns-in-Some-clause-repeats
returns-in-Some-clause-repeats c = λ later.
    subst (RepeatsAfter c.args.self.now) (omega (arith, casts, c.in-Some.ensures.moved, c.cycle.ensures.low, c.cycle.ensures.high)) c.cycle.ensures.repeats
