use Rattle.zone_rule.proofs.RuleCycles.{change_second-again, day_in_year-again}
use Rattle.zone_rule.proofs.law.changes_come_again.Goals as goal

pub returns-clause-day : goal.returns-clause-day
returns-clause-day c = λ day y. day_in_year-again y day

pub returns-clause-change : goal.returns-clause-change
returns-clause-change c = change_second-again
