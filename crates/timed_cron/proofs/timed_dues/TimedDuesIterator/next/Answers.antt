use Rattle.chrono_datetime.proofs.ListsLeft.{YieldsFirst-goes}
use Rattle.timed_cron.specs.TimedDueLists.{timed_dues_left}
use Rattle.timed_cron.proofs.timed_dues.TimedDuesIterator.next.Goals as goal

pub returns-clause-goes : goal.returns-clause-goes
returns-clause-goes c = YieldsFirst-goes timed_dues_left _ _ _ c.step.ensures.steps
