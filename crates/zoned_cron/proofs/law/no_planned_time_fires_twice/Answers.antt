use Rattle.zoned_cron.proofs.Laws.{fires_once}
use Rattle.zoned_cron.proofs.law.no_planned_time_fires_twice.Goals as goal

pub returns : goal.returns
returns c = fires_once
