use Rattle.std.proofs.Common.{None, arith, ◌+◌}
use Rattle.chrono_calendar.specs.Days.{year_of, day_of}
use Rattle.chrono_calendar.proofs.Dates.{date_of_ymd-SomeIff}
use Rattle.chrono_naive.proofs.naive_date.fields.NaiveDateDatelike.with_month0.Goals as goal

pub returns-in_err-checked_add-clause-date : goal.returns-in_err-checked_add-clause-date
returns-in_err-checked_add-clause-date c =
    rw c.from_residual.ensures
    (date_of_ymd-SomeIff None (year_of c.args.self.now) (c.args.month0 + 1) (day_of c.args.self.now)
    (λ h. c.in_err-checked_add.ensures (omega (arith, h.1.0.1))))
