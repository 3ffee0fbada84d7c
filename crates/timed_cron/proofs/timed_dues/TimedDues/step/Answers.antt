use Rattle.timed_cron.proofs.TimedDueLists.{timed_dues_after-first, timed_dues_after-none}
use Rattle.timed_cron.proofs.timed_dues.TimedDues.step.Goals as goal

pub returns-in_default-clause-steps : goal.returns-in_default-clause-steps
returns-in_default-clause-steps c =
    let sets = c.args.self.now.schedule in
    let none = timed_dues_after-none sets c.args.self.now.last c.date_times_exist.ensures c.in_default.ensures.none in
    (none, none)

pub returns-clause-steps : goal.returns-clause-steps
returns-clause-steps c =
    let due = c.in-Some.ensures in
    timed_dues_after-first c.args.self.now.schedule c.args.self.now.last c.in-Some.next c.date_times_exist.ensures c.date_times_exist-2.ensures due.due due.later due.least
