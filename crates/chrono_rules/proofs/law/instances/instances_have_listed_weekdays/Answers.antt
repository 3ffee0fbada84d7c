use Rattle.chrono_rules.proofs.ListedDays.{weekday_plain}
use Rattle.chrono_rules.proofs.law.instances.instances_have_listed_weekdays.Goals as goal

pub returns-clause-plain : goal.returns-clause-plain
returns-clause-plain c = weekday_plain c.args.rule.now c.args.start
