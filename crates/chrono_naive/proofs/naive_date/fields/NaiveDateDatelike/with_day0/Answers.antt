use Rattle.std.proofs.Common.{None, arith, ◌+◌}
use Rattle.chrono_units.specs.Years.{is_leap_year}
use Rattle.chrono_calendar.specs.Days.{year_of, month_of}
use Rattle.chrono_calendar.proofs.Months.{month_length_in-bounds}
use Rattle.chrono_calendar.proofs.Dates.{date_of_ymd-SomeIff}
use Rattle.chrono_naive.proofs.naive_date.fields.NaiveDateDatelike.with_day0.Goals as goal

pub returns-in_err-checked_add-clause-date : goal.returns-in_err-checked_add-clause-date
returns-in_err-checked_add-clause-date c =
    rw c.from_residual.ensures
    (date_of_ymd-SomeIff None (year_of c.args.self.now) (month_of c.args.self.now) (c.args.day0 + 1)
    (λ h. c.in_err-checked_add.ensures (omega (arith, h.1.1, month_length_in-bounds (is_leap_year (year_of c.args.self.now)) (month_of c.args.self.now)))))
