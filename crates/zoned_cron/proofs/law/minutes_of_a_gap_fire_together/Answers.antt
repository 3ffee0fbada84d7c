use Rattle.zoned_cron.proofs.GapDays.{any_day_fires}
use Rattle.zoned_cron.proofs.law.minutes_of_a_gap_fire_together.Goals as goal

pub returns : goal.returns
returns c = any_day_fires
