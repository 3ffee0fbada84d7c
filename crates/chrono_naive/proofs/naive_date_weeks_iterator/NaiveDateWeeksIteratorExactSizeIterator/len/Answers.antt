use Rattle.std.proofs.Common.{arith}
use Rattle.chrono_calendar.proofs.Signed.{casts}
use Rattle.chrono_naive.proofs.DateListLemmas.{length-weeks_from}
use Rattle.chrono_naive.proofs.naive_date_weeks_iterator.NaiveDateWeeksIteratorExactSizeIterator.len.Goals as goal

pub overflow_cast-result : goal.overflow_cast-result
overflow_cast-result c = omega (arith, casts, c.day_number.ensures.value, c.day_number.ensures.in_range)

pub returns-clause-value : goal.returns-clause-value
returns-clause-value c =
    rw (length-weeks_from c.args.self.now)
    (omega (arith, casts, c.day_number.ensures.value, c.day_number.ensures.in_range, c.self.view_is))
