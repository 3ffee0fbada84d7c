use Rattle.chrono_calendar.proofs.IsoDates.{date_of_iso-again}
use Rattle.chrono_naive.proofs.naive_date.fields.NaiveDateDatelike.weekday.Goals as goal

pub returns-clause-names : goal.returns-clause-names
returns-clause-names c =
    let date = rw c.day_number.ensures.value at c.day_number.ensures.in_range in
    rw (c.weekday.ensures, c.self.view_is) (date_of_iso-again c.args.self.now date)
