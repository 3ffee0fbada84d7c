use Rattle.chrono_business.proofs.OpenMoves.{moved-one, moved-order}
use Rattle.chrono_business.proofs.law.moved_open_days_keep_order.Goals as goal

pub returns-clause-one : goal.returns-clause-one
returns-clause-one c = moved-one

pub returns-clause-order : goal.returns-clause-order
returns-clause-order c = moved-order
