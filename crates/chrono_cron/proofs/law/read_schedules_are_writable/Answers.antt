use Rattle.chrono_cron.proofs.ReadIsWritable.{schedule_told}
use Rattle.chrono_cron.proofs.law.read_schedules_are_writable.Goals as goal

pub returns : goal.returns
returns c = schedule_told c.args.text.now c.args.schedule.now.sets
