use Rattle.chrono_cron.proofs.SchedulesReadBack.{schedule_back}
use Rattle.chrono_cron.proofs.law.written_schedules_are_read.Goals as goal

pub returns : goal.returns
returns c = λ told. schedule_back c.args.schedule.now.sets told
