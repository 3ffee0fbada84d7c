use Rattle.chrono_business.proofs.Ranks.{if-last, if-no_last}
use Rattle.chrono_business.proofs.calendar.Calendar.last_open.Goals as goal

pub returns-clause-greatest : goal.returns-clause-greatest
returns-clause-greatest c = if-last c.nth_open_back.result c.args.self.now c.args.date c.nth_open_back.ensures.nth

pub returns-clause-none : goal.returns-clause-none
returns-clause-none c = if-no_last c.nth_open_back.result c.args.self.now c.args.date c.nth_open_back.ensures.none
