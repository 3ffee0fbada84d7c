use Rattle.std.proofs.Common.{refl}
use Rattle.zoned_rules.proofs.GivenInstances.{given_in_order}
use Rattle.zoned_rules.proofs.zoned_rule.ZonedRule.after.Goals as goal

pub returns-clause-runs : goal.returns-clause-runs
returns-clause-runs g c = λ given drains. given_in_order (g.Z.TimeZone.ahead) c.args.self.now _ c.args.start given refl refl drains
