use Rattle.std.proofs.Common.{subst, arith}
use Rattle.chrono_datetime.proofs.Signed.{casts}
use Rattle.chrono_rules.specs.RuleCycles.{RepeatsAfter}
use Rattle.chrono_rules.proofs.rule.Rule.cycle.Goals as goal

pub returns-then-repeats_by_weeks-clause-repeats : goal.returns-then-repeats_by_weeks-clause-repeats
returns-then-repeats_by_weeks-clause-repeats c =
    subst (RepeatsAfter c.args.self.now) (omega (arith, casts, c.step.ensures.value, c.step.ensures.few)) (c.repeats_by_weeks.ensures c.if-repeats_by_weeks.true)

pub returns-clause-repeats : goal.returns-clause-repeats
returns-clause-repeats c = subst (RepeatsAfter c.args.self.now) (omega (arith, casts, c.from.ensures)) c.rounds.ensures

pub returns-clause-low : goal.returns-clause-low
returns-clause-low c = omega (arith, casts, c.from.ensures, c.rounds.ensures.later)
