use Rattle.chrono_cron.proofs.DueLists.{dues_after-first, dues_after-none}
use Rattle.chrono_cron.proofs.search.due_moments.Dues.step.Goals as goal

pub returns-in_default-clause-steps : goal.returns-in_default-clause-steps
returns-in_default-clause-steps c =
    let sets = c.args.self.now.schedule.sets in
    let none = dues_after-none sets c.args.self.now.last c.date_times_exist.ensures c.in_default.ensures.none in
    (none, none)

pub returns-clause-steps : goal.returns-clause-steps
returns-clause-steps c =
    let due = c.in-Some.ensures in
    dues_after-first c.args.self.now.schedule.sets c.args.self.now.last c.in-Some.next c.date_times_exist.ensures c.date_times_exist-2.ensures due.member due.later due.least
