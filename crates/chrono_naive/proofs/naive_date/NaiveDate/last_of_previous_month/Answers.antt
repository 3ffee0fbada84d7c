use Rattle.std.proofs.Common.{◌∙◌, ap, pos, ◌-ℤ◌}
use Rattle.chrono_calendar.specs.Days.{date_of_day}
use Rattle.chrono_calendar.proofs.MonthDays.{if_previous_month, no_previous_month, if_first_month}
use Rattle.chrono_naive.proofs.naive_date.NaiveDate.last_of_previous_month.Goals as goal

pub returns-clause-date : goal.returns-clause-date
returns-clause-date c = c.moved_by_days.ensures.date ∙ ap (λ n. date_of_day (n -ℤ pos 1)) c.first_day_of_month.ensures.first

pub returns-clause-number : goal.returns-clause-number
returns-clause-number c = (if_previous_month c.moved_by_days.result c.args.self.now (returns-clause-date c)).0

pub returns-clause-month : goal.returns-clause-month
returns-clause-month c = (if_previous_month c.moved_by_days.result c.args.self.now (returns-clause-date c)).1

pub returns-clause-day : goal.returns-clause-day
returns-clause-day c = (if_previous_month c.moved_by_days.result c.args.self.now (returns-clause-date c)).2

pub returns-clause-within : goal.returns-clause-within
returns-clause-within c = (if_previous_month c.moved_by_days.result c.args.self.now (returns-clause-date c)).3

pub returns-clause-none : goal.returns-clause-none
returns-clause-none c =
    no_previous_month c.moved_by_days.result c.args.self.now (rw c.first_day_of_month.ensures.first at c.moved_by_days.ensures.in_range) (returns-clause-date c)

pub returns-clause-first : goal.returns-clause-first
returns-clause-first c =
    if_first_month c.moved_by_days.result c.args.self.now (rw c.first_day_of_month.ensures.first at c.moved_by_days.ensures.in_range) (returns-clause-date c)
