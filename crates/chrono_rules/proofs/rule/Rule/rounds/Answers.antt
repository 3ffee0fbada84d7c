use Rattle.std.proofs.Common.{refl, arith}
use Rattle.chrono_datetime.proofs.Signed.{casts}
use Rattle.chrono_rules.proofs.Repeated.{rounds-repeat}
use Rattle.chrono_rules.proofs.rule.Rule.rounds.Goals as goal

pub returns : goal.returns
returns c =
    rounds-repeat c.args.self.now _ _ c.common_divisor.result _ c.common_divisor.ensures.divisor refl
    (omega (arith, casts, c.step-step.ensures.value, c.step-step.ensures.few, c.step-step.ensures.positive)) c.periods_of_400_years.ensures
