use Rattle.chrono_business.proofs.Checked.{one_wrong}
use Rattle.chrono_business.proofs.law.wrong_holidays_are_one.Goals as goal

pub returns : goal.returns
returns c = one_wrong
