use Rattle.chrono_calendar.proofs.NamedDates.{date_of_yo-again}
use Rattle.chrono_naive.proofs.naive_date.fields.NaiveDateDatelike.ordinal.Goals as goal

pub returns-clause-names : goal.returns-clause-names
returns-clause-names c =
    let date = rw c.day_number.ensures.value at c.day_number.ensures.in_range in
    rw (c.ordinal.ensures.value, c.self.view_is) (date_of_yo-again c.args.self.now date)
