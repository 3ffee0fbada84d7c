use Rattle.std.proofs.Common.{refl}
use Rattle.std.specs.Fmt.{digits}
use Rattle.chrono_clock.proofs.law.greatest_duration.Goals as goal

pub returns-clause-text : goal.returns-clause-text
unfolding digits
returns-clause-text c = refl
