use Rattle.zoned_cron.proofs.Laws.{one_firing}
use Rattle.zoned_cron.proofs.law.each_planned_time_fires_once.Goals as goal

pub returns : goal.returns
returns c = one_firing
