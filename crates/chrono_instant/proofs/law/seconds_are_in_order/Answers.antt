use Rattle.chrono_instant.proofs.InstantLemmas.{IsBefore-by_second}
use Rattle.chrono_instant.proofs.law.seconds_are_in_order.Goals as goal

pub returns : goal.returns
returns c = IsBefore-by_second
