use Rattle.std.proofs.Common.{◌∙◌, sym, arith}
use Rattle.chrono_calendar.proofs.Signed.{casts}
use Rattle.chrono_naive.proofs.DateListLemmas.{length-days_from}
use Rattle.chrono_naive.proofs.naive_date_days_iterator.NaiveDateDaysIteratorExactSizeIterator.len.Goals as goal

pub returns-clause-count : goal.returns-clause-count
returns-clause-count c = omega (arith, casts, c.self.invariant.0, c.self.invariant.1, c.self.view_is)

pub returns-clause-value : goal.returns-clause-value
returns-clause-value c = returns-clause-count c ∙ sym (length-days_from c.args.self.now)
