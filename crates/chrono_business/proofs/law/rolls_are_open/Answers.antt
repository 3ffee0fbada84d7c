use Rattle.chrono_business.proofs.RollLaws.{following-in_month, preceding-in_month, rolls-open, rolls-stay}
use Rattle.chrono_business.proofs.law.rolls_are_open.Goals as goal

pub returns-clause-open : goal.returns-clause-open
returns-clause-open c = rolls-open

pub returns-clause-stays : goal.returns-clause-stays
returns-clause-stays c = rolls-stay

pub returns-clause-following_in_month : goal.returns-clause-following_in_month
returns-clause-following_in_month c = following-in_month

pub returns-clause-preceding_in_month : goal.returns-clause-preceding_in_month
returns-clause-preceding_in_month c = preceding-in_month
