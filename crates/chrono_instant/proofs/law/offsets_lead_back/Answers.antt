use Rattle.chrono_instant.proofs.InstantLemmas.{IsShifted-back}
use Rattle.chrono_instant.proofs.law.offsets_lead_back.Goals as goal

pub returns : goal.returns
returns c = IsShifted-back
