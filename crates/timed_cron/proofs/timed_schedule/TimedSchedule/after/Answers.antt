use Rattle.std.proofs.Common.{arith}
use Rattle.std.proofs.iter.Rest.{run_of_first}
use Rattle.chrono_datetime.proofs.Signed.{signed}
use Rattle.timed_cron.specs.TimedDueLists.{timed_dues_left}
use Rattle.timed_cron.proofs.TimedDueLists.{timed_dues_after-few}
use Rattle.timed_cron.proofs.timed_schedule.TimedSchedule.after.Goals as goal

pub returns-clause-few : goal.returns-clause-few
returns-clause-few c =
    let is = c.date_times_exist.ensures in
    omega (arith, signed, timed_dues_after-few c.args.self.now c.args.start, is.date.0, is.date.1, is.time.second)

pub returns-clause-runs : goal.returns-clause-runs
returns-clause-runs c = λ p seen. (run_of_first timed_dues_left p).1
