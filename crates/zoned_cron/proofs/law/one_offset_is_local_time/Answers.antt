use Rattle.zoned_cron.proofs.Laws.{one_offset}
use Rattle.zoned_cron.proofs.law.one_offset_is_local_time.Goals as goal

pub returns : goal.returns
returns c = one_offset
