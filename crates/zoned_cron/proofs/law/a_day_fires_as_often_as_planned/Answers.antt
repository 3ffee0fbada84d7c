use Rattle.zoned_cron.proofs.DayFirings.{begins_minutes, day_fires}
use Rattle.zoned_cron.proofs.law.a_day_fires_as_often_as_planned.Goals as goal

pub returns : goal.returns
returns c = record { day = day_fires; minutes = begins_minutes }
