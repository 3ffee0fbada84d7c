use Rattle.zoned_cron.proofs.FiringLists.{given_after}
use Rattle.zoned_cron.proofs.schedule.ZonedSchedule.after.Goals as goal

pub returns-clause-runs : goal.returns-clause-runs
returns-clause-runs g c = λ given drains. given_after (g.Z.TimeZone.ahead) c.args.self.now c.begin.result c.args.start given c.begin.ensures drains
