use Rattle.zoned_cron.proofs.GapDays.{gap_day}
use Rattle.zoned_cron.proofs.law.known_gap_day.Goals as goal

pub returns : goal.returns
returns c = gap_day
