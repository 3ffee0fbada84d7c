use Rattle.chrono_zoned.proofs.MappedLemmas.{IsMapped-own}
use Rattle.chrono_zoned.proofs.law.instants_are_among_their_own.Goals as goal

pub returns : goal.returns
returns c = IsMapped-own
