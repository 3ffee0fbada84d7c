use Rattle.std.proofs.Common.{◌∙◌, ap, pos, ◌+ℤ◌}
use Rattle.chrono_calendar.specs.Days.{date_of_day}
use Rattle.chrono_calendar.proofs.MonthDays.{if_next_month, no_next_month, if_last_month}
use Rattle.chrono_naive.proofs.naive_date.NaiveDate.first_of_next_month.Goals as goal

pub returns-clause-date : goal.returns-clause-date
returns-clause-date c = c.moved_by_days.ensures.date ∙ ap (λ n. date_of_day (n +ℤ pos 1)) c.last_day_of_month.ensures.last

pub returns-clause-number : goal.returns-clause-number
returns-clause-number c = (if_next_month c.moved_by_days.result c.args.self.now (returns-clause-date c)).0

pub returns-clause-month : goal.returns-clause-month
returns-clause-month c = (if_next_month c.moved_by_days.result c.args.self.now (returns-clause-date c)).1

pub returns-clause-day : goal.returns-clause-day
returns-clause-day c = (if_next_month c.moved_by_days.result c.args.self.now (returns-clause-date c)).2

pub returns-clause-within : goal.returns-clause-within
returns-clause-within c = (if_next_month c.moved_by_days.result c.args.self.now (returns-clause-date c)).3

pub returns-clause-none : goal.returns-clause-none
returns-clause-none c =
    no_next_month c.moved_by_days.result c.args.self.now (rw c.last_day_of_month.ensures.last at c.moved_by_days.ensures.in_range) (returns-clause-date c)

pub returns-clause-last : goal.returns-clause-last
returns-clause-last c =
    if_last_month c.moved_by_days.result c.args.self.now (rw c.last_day_of_month.ensures.last at c.moved_by_days.ensures.in_range) (returns-clause-date c)
