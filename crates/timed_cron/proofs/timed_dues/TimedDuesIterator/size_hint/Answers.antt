use Rattle.timed_cron.proofs.TimedDueLists.{timed_dues_after-few}
use Rattle.timed_cron.proofs.timed_dues.TimedDuesIterator.size_hint.Goals as goal

pub returns-clause-bound : goal.returns-clause-bound
returns-clause-bound c = timed_dues_after-few c.args.self.now.schedule c.args.self.now.last
