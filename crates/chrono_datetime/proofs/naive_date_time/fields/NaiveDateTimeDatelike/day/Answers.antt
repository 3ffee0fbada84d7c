use Rattle.std.proofs.Common.{◌≡◌, Some, subst}
use Rattle.chrono_naive.specs.Days.{date_of_ymd, year_of, month_of}
use Rattle.chrono_datetime.specs.Moment.{Moment}
use Rattle.chrono_datetime.proofs.naive_date_time.fields.NaiveDateTimeDatelike.day.Goals as goal

pub returns-clause-names : goal.returns-clause-names
returns-clause-names c =
    let Named : Moment → Type 0 = λ m. date_of_ymd (year_of m.date) (month_of m.date) c.day.result ≡ Some m.date in
    subst Named c.self.view_is c.day.ensures.names
