use Rattle.chrono_cron.proofs.DueLists.{dues_after-few}
use Rattle.chrono_cron.proofs.search.due_moments.DuesIterator.size_hint.Goals as goal

pub returns-clause-bound : goal.returns-clause-bound
returns-clause-bound c = dues_after-few c.args.self.now.schedule.sets c.args.self.now.last
