use Rattle.zone_rule.proofs.LastOfAll.{change_second-later, last_change}
use Rattle.zone_rule.proofs.law.last_changes_are_last.Goals as goal

pub returns-clause-come : goal.returns-clause-come
returns-clause-come c = λ offset change u is near. (last_change offset change u is near).0

pub returns-clause-last : goal.returns-clause-last
returns-clause-last c = λ offset change u is near. (last_change offset change u is near).1

pub returns-clause-later : goal.returns-clause-later
returns-clause-later c = λ offset change y is. change_second-later offset change y is.day
