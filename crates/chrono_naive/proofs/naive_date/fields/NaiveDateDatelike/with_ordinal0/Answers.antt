use Rattle.std.proofs.Common.{None, arith, ◌+◌}
use Rattle.chrono_calendar.specs.Days.{year_of}
use Rattle.chrono_calendar.proofs.Dates.{date_of_yo-SomeIff}
use Rattle.chrono_calendar.proofs.Names.{year_length_bounds}
use Rattle.chrono_naive.proofs.naive_date.fields.NaiveDateDatelike.with_ordinal0.Goals as goal

pub returns-in_err-checked_add-clause-date : goal.returns-in_err-checked_add-clause-date
returns-in_err-checked_add-clause-date c =
    rw c.from_residual.ensures
    (date_of_yo-SomeIff None (year_of c.args.self.now) (c.args.ordinal0 + 1)
    (λ h. c.in_err-checked_add.ensures (omega (arith, h.1.1, year_length_bounds (year_of c.args.self.now)))))
