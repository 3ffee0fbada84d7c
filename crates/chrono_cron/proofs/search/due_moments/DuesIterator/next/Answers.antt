use Rattle.chrono_datetime.proofs.ListsLeft.{YieldsFirst-goes}
use Rattle.chrono_cron.specs.DueMoments.{dues_left}
use Rattle.chrono_cron.proofs.search.due_moments.DuesIterator.next.Goals as goal

pub returns-clause-goes : goal.returns-clause-goes
returns-clause-goes c = YieldsFirst-goes dues_left _ _ _ c.step.ensures.steps
