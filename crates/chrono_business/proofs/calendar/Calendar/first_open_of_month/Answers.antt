use Rattle.chrono_business.proofs.MonthDayCounts.{exists-first, in_month-first, month-least, month_closed-first}
use Rattle.chrono_business.proofs.calendar.Calendar.first_open_of_month.Goals as goal

pub returns-clause-exists : goal.returns-clause-exists
returns-clause-exists c =
    exists-first c.next_open_in_month.result c.args.self.now c.args.date (rw c.first_day_of_month.ensures.first at c.next_open_in_month.ensures.next) (rw c.first_day_of_month.ensures.first at c.next_open_in_month.ensures.month) (rw c.first_day_of_month.ensures.first at c.next_open_in_month.ensures.none)

pub returns-clause-month : goal.returns-clause-month
returns-clause-month c =
    in_month-first c.next_open_in_month.result c.args.date (rw c.first_day_of_month.ensures.first at c.next_open_in_month.ensures.month)

pub returns-clause-least : goal.returns-clause-least
returns-clause-least c =
    month-least c.next_open_in_month.result c.args.self.now c.args.date (rw c.first_day_of_month.ensures.first at c.next_open_in_month.ensures.next)

pub returns-clause-none : goal.returns-clause-none
returns-clause-none c =
    month_closed-first c.next_open_in_month.result c.args.self.now c.args.date (rw c.first_day_of_month.ensures.first at c.next_open_in_month.ensures.none)
