use Rattle.chrono_business.proofs.Ranks.{signed-sum}
use Rattle.chrono_business.proofs.law.open_days_add_up.Goals as goal

pub returns : goal.returns
returns c = signed-sum
