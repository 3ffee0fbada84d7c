use Rattle.chrono_business.proofs.OpenMoves.{moved-count_back, moved-count_on, moved-count_open, moved-first_back, moved-first_on}
use Rattle.chrono_business.proofs.law.moved_open_days_are_counted.Goals as goal

pub returns-clause-open : goal.returns-clause-open
returns-clause-open c = moved-count_open

pub returns-clause-back : goal.returns-clause-back
returns-clause-back c = moved-count_back

pub returns-clause-on : goal.returns-clause-on
returns-clause-on c = moved-count_on

pub returns-clause-first_on : goal.returns-clause-first_on
returns-clause-first_on c = moved-first_on

pub returns-clause-first_back : goal.returns-clause-first_back
returns-clause-first_back c = moved-first_back
