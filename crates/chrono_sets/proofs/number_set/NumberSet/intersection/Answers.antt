use Rattle.std.proofs.Common.{refl}
use Rattle.chrono_sets.proofs.Digits.{has-and}
use Rattle.chrono_sets.proofs.number_set.NumberSet.intersection.Goals as goal

pub returns : goal.returns
returns c = rw (← c.self.view_is, ← c.other.view_is) (λ k. has-and _ _ _ k refl)
