use Rattle.std.proofs.Common.{rules}
use Rattle.chrono_calendar.proofs.NamedDates.{date_of_ymd-again}
use Rattle.chrono_naive.proofs.naive_date.NaiveDate.year_month_day.Goals as goal

pub returns-clause-year : goal.returns-clause-year
returns-clause-year c = search rules

pub returns-clause-month : goal.returns-clause-month
returns-clause-month c = search rules

pub returns-clause-day : goal.returns-clause-day
returns-clause-day c = search rules

pub returns-clause-names : goal.returns-clause-names
returns-clause-names c =
    let date = rw c.day_number.ensures.value at c.day_number.ensures.in_range in
    rw (returns-clause-year c, returns-clause-month c, returns-clause-day c) (date_of_ymd-again c.args.self.now date)
