use Rattle.chrono_zoned.proofs.MappedLemmas.{IsMapped-once}
use Rattle.chrono_zoned.proofs.law.local_times_are_mapped_once.Goals as goal

pub returns : goal.returns
returns c = IsMapped-once
