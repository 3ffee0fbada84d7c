use Rattle.zoned_rules.proofs.Standing.{stands_once}
use Rattle.zoned_rules.proofs.law.local_times_stand_for_one_instant.Goals as goal

pub returns : goal.returns
returns c = stands_once
