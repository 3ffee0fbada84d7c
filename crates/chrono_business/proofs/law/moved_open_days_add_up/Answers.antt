use Rattle.chrono_business.proofs.OpenMoves.{moved-sum_back, moved-sum_on, moved-sum_open}
use Rattle.chrono_business.proofs.law.moved_open_days_add_up.Goals as goal

pub returns-clause-open : goal.returns-clause-open
returns-clause-open c = moved-sum_open

pub returns-clause-on : goal.returns-clause-on
returns-clause-on c = moved-sum_on

pub returns-clause-back : goal.returns-clause-back
returns-clause-back c = moved-sum_back
