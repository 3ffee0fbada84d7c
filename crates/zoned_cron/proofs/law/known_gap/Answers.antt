use Rattle.zoned_cron.proofs.Laws.{gap_never, gap_once}
use Rattle.zoned_cron.proofs.law.known_gap.Goals as goal

pub returns : goal.returns
returns c = record { once = gap_once; never = gap_never }
