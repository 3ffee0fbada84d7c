use Rattle.chrono_naive.proofs.DateListLemmas.{weeks_from-yields}
use Rattle.chrono_naive.proofs.naive_date_weeks_iterator.NaiveDateWeeksIterator.step.Goals as goal

pub returns-clause-steps : goal.returns-clause-steps
returns-clause-steps c = weeks_from-yields _ _ _ c.move_by.ensures.in_range c.move_by.ensures.date c.move_by.ensures.moved c.move_by.ensures.refused
