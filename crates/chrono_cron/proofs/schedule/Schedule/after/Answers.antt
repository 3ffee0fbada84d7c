use Rattle.std.proofs.Common.{arith}
use Rattle.std.proofs.iter.Rest.{run_of_first}
use Rattle.chrono_datetime.proofs.Signed.{signed}
use Rattle.chrono_cron.specs.DueMoments.{dues_left}
use Rattle.chrono_cron.proofs.DueLists.{dues_after-few}
use Rattle.chrono_cron.proofs.schedule.Schedule.after.Goals as goal

pub returns-clause-few : goal.returns-clause-few
returns-clause-few c =
    let is = c.date_times_exist.ensures in
    omega (arith, signed, dues_after-few c.args.self.now.sets c.args.start, is.date.0, is.date.1, is.time.second)

pub returns-clause-runs : goal.returns-clause-runs
returns-clause-runs c = λ p seen. (run_of_first dues_left p).1
