use Rattle.chrono_units.proofs.ListsLeft.{YieldsFirst-goes}
use Rattle.chrono_naive.specs.DateLists.{days_from}
use Rattle.chrono_naive.proofs.naive_date_days_iterator.NaiveDateDaysIteratorIterator.next.Goals as goal

pub returns-clause-goes : goal.returns-clause-goes
returns-clause-goes c = YieldsFirst-goes days_from _ _ _ c.step.ensures.steps
