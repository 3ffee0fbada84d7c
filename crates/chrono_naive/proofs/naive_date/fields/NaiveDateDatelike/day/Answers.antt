use Rattle.chrono_calendar.proofs.NamedDates.{date_of_ymd-again}
use Rattle.chrono_naive.proofs.naive_date.fields.NaiveDateDatelike.day.Goals as goal

pub returns-clause-names : goal.returns-clause-names
returns-clause-names c =
    let date = rw c.day_number.ensures.value at c.day_number.ensures.in_range in
    rw (c.month_day.ensures.day, c.self.view_is) (date_of_ymd-again c.args.self.now date)
