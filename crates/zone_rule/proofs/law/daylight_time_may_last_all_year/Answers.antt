use Rattle.zone_rule.proofs.AllYear.{all_year}
use Rattle.zone_rule.proofs.law.daylight_time_may_last_all_year.Goals as goal

pub returns : goal.returns
returns c = all_year
