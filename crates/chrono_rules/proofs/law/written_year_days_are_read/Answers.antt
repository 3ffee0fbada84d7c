use Rattle.chrono_rules.proofs.ListsBack.{year_ends_back}
use Rattle.chrono_rules.proofs.law.written_year_days_are_read.Goals as goal

pub returns : goal.returns
returns c = year_ends_back c.args.front.now c.args.back.now
