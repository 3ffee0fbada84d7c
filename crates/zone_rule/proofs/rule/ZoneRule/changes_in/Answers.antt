use Rattle.std.proofs.Common.{rules, refl, subst, sym, Option}
use Rattle.std.specs.Prelude.{IsSome}
use Rattle.zone_rule.specs.declared.rule.Daylight.{Daylight}
use Rattle.zone_rule.proofs.rule.ZoneRule.changes_in.Goals as goal

pub returns-clause-exists : goal.returns-clause-exists
returns-clause-exists c = (λ _. (subst (λ (o : Option Daylight). IsSome o) (sym c.in_ok-daylight.was) refl, search rules), λ _. refl)
