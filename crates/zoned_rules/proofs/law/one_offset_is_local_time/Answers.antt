use Rattle.zoned_rules.proofs.Laws.{one_offset}
use Rattle.zoned_rules.proofs.law.one_offset_is_local_time.Goals as goal

pub returns : goal.returns
returns c = one_offset
