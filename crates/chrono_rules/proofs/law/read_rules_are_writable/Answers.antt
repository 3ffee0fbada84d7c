use Rattle.chrono_rules.proofs.RuleWritable.{rule_writable}
use Rattle.chrono_rules.proofs.law.read_rules_are_writable.Goals as goal

pub returns : goal.returns
returns c = rule_writable _ c.args.rule.now
