use Rattle.chrono_business.proofs.OpenMoves.{moved-back}
use Rattle.chrono_business.proofs.law.moved_open_days_come_back.Goals as goal

pub returns : goal.returns
returns c = moved-back
