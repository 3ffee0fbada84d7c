use Rattle.zone_rule.proofs.RuleDates.{rule_date-number}
use Rattle.zone_rule.proofs.law.changes_come_on_their_dates.Goals as goal

pub returns : goal.returns
returns c = rule_date-number
