use Rattle.chrono_business.proofs.Ranks.{if-next, if-no_next}
use Rattle.chrono_business.proofs.calendar.Calendar.next_open.Goals as goal

pub returns-clause-least : goal.returns-clause-least
returns-clause-least c = if-next c.nth_open_from.result c.args.self.now c.args.date c.nth_open_from.ensures.nth

pub returns-clause-none : goal.returns-clause-none
returns-clause-none c = if-no_next c.nth_open_from.result c.args.self.now c.args.date c.nth_open_from.ensures.none
