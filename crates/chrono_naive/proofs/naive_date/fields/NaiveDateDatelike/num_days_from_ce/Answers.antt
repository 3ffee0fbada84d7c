use Rattle.std.proofs.Common.{arith, FitsSigned, w32}
use Rattle.std.proofs.lemmas.Int.{to_z-of_z}
use Rattle.chrono_calendar.proofs.NamedDates.{date_of_day-Some}
use Rattle.chrono_calendar.proofs.Signed.{casts}
use Rattle.chrono_naive.proofs.naive_date.fields.NaiveDateDatelike.num_days_from_ce.Goals as goal

pub returns-clause-names : goal.returns-clause-names
returns-clause-names c =
    let fits : FitsSigned w32 c.day_number.result = omega (arith, casts, c.day_number.ensures.in_range) in
    rw (to_z-of_z w32 c.day_number.result fits, c.day_number.ensures.value) (date_of_day-Some c.args.self.now (rw c.day_number.ensures.value at c.day_number.ensures.in_range))
