use Rattle.std.proofs.iter.Rest.{run_of_first}
use Rattle.chrono_naive.specs.DateLists.{weeks_from}
use Rattle.chrono_naive.proofs.DateListLemmas.{weeks_from-few}
use Rattle.chrono_naive.proofs.TakenDates.{taken_in_order}
use Rattle.chrono_naive.proofs.naive_date.NaiveDate.iter_weeks.Goals as goal

pub returns-clause-few : goal.returns-clause-few
returns-clause-few c = weeks_from-few c.args.self.now (rw c.day_number.ensures.value at c.day_number.ensures.in_range)

pub returns-clause-runs : goal.returns-clause-runs
returns-clause-runs c = λ p seen. (run_of_first weeks_from p).1

pub returns-clause-taken : goal.returns-clause-taken
returns-clause-taken c = taken_in_order weeks_from
