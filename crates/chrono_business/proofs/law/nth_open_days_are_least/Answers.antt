use Rattle.chrono_business.proofs.Laws.{nth_from-least, nth_from-one}
use Rattle.chrono_business.proofs.law.nth_open_days_are_least.Goals as goal

pub returns-clause-one : goal.returns-clause-one
returns-clause-one c = nth_from-one

pub returns-clause-least : goal.returns-clause-least
returns-clause-least c = nth_from-least
