use Rattle.std.proofs.iter.Rest.{run_of_first}
use Rattle.chrono_naive.specs.DateLists.{days_from}
use Rattle.chrono_naive.proofs.DateListLemmas.{length-days_from, days_from-few}
use Rattle.chrono_naive.proofs.TakenDates.{taken_in_order}
use Rattle.chrono_naive.proofs.naive_date.NaiveDate.iter_days.Goals as goal

pub returns-clause-count : goal.returns-clause-count
returns-clause-count c = length-days_from c.args.self.now

pub returns-clause-few : goal.returns-clause-few
returns-clause-few c = days_from-few c.args.self.now (rw c.day_number.ensures.value at c.day_number.ensures.in_range)

pub returns-clause-runs : goal.returns-clause-runs
returns-clause-runs c = λ p seen. (run_of_first days_from p).1

pub returns-clause-taken : goal.returns-clause-taken
returns-clause-taken c = taken_in_order days_from
