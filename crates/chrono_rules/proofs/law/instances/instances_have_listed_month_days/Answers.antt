use Rattle.chrono_rules.proofs.ListedDays.{day_from_end, day_from_front}
use Rattle.chrono_rules.proofs.law.instances.instances_have_listed_month_days.Goals as goal

pub returns-clause-front : goal.returns-clause-front
returns-clause-front c = day_from_front c.args.rule.now c.args.start

pub returns-clause-back : goal.returns-clause-back
returns-clause-back c = day_from_end c.args.rule.now c.args.start
