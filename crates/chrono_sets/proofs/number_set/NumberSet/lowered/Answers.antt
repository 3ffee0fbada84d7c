use Rattle.std.proofs.Common.{refl}
use Rattle.chrono_sets.proofs.Digits.{has-lowered}
use Rattle.chrono_sets.proofs.number_set.NumberSet.lowered.Goals as goal

pub returns : goal.returns
returns c = rw (← c.self.view_is) (λ k. has-lowered _ _ c.args.by k refl)
