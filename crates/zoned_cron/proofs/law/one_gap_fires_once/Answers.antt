use Rattle.zoned_cron.proofs.Laws.{fires_apart, fires_together}
use Rattle.zoned_cron.proofs.law.one_gap_fires_once.Goals as goal

pub returns : goal.returns
returns c = record { together = fires_together; apart = fires_apart }
