use Rattle.calendar_rules.proofs.SingleInstances.{one_instance}
use Rattle.calendar_rules.proofs.law.no_rule_is_one_instance.Goals as goal

pub returns : goal.returns
returns c = one_instance
