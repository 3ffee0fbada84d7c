use Rattle.chrono_units.proofs.ListsLeft.{YieldsFirst-goes}
use Rattle.chrono_naive.specs.DateLists.{weeks_from}
use Rattle.chrono_naive.proofs.naive_date_weeks_iterator.NaiveDateWeeksIteratorIterator.next.Goals as goal

pub returns-clause-goes : goal.returns-clause-goes
returns-clause-goes c = YieldsFirst-goes weeks_from _ _ _ c.step.ensures.steps
