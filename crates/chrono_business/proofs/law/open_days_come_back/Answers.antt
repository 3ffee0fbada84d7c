use Rattle.chrono_business.proofs.Laws.{nth_back-turned, nth_from-turned}
use Rattle.chrono_business.proofs.law.open_days_come_back.Goals as goal

pub returns-clause-on : goal.returns-clause-on
returns-clause-on c = nth_from-turned

pub returns-clause-back : goal.returns-clause-back
returns-clause-back c = nth_back-turned
