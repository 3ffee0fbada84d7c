use Rattle.chrono_business.proofs.MonthDayCounts.{exists-last, in_month-last, month-greatest, month_closed-last}
use Rattle.chrono_business.proofs.calendar.Calendar.last_open_of_month.Goals as goal

pub returns-clause-exists : goal.returns-clause-exists
returns-clause-exists c =
    exists-last c.last_open_in_month.result c.args.self.now c.args.date (rw c.last_day_of_month.ensures.last at c.last_open_in_month.ensures.last) (rw c.last_day_of_month.ensures.last at c.last_open_in_month.ensures.month) (rw c.last_day_of_month.ensures.last at c.last_open_in_month.ensures.none)

pub returns-clause-month : goal.returns-clause-month
returns-clause-month c =
    in_month-last c.last_open_in_month.result c.args.date (rw c.last_day_of_month.ensures.last at c.last_open_in_month.ensures.month)

pub returns-clause-greatest : goal.returns-clause-greatest
returns-clause-greatest c =
    month-greatest c.last_open_in_month.result c.args.self.now c.args.date (rw c.last_day_of_month.ensures.last at c.last_open_in_month.ensures.last)

pub returns-clause-none : goal.returns-clause-none
returns-clause-none c =
    month_closed-last c.last_open_in_month.result c.args.self.now c.args.date (rw c.last_day_of_month.ensures.last at c.last_open_in_month.ensures.none)
