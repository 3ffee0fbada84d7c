use Rattle.zoned_cron.proofs.Laws.{none_missed}
use Rattle.zoned_cron.proofs.law.no_shown_time_is_missed.Goals as goal

pub returns : goal.returns
returns c = none_missed
