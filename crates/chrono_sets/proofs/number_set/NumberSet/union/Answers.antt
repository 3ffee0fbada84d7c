use Rattle.std.proofs.Common.{refl}
use Rattle.chrono_sets.proofs.Digits.{has-or}
use Rattle.chrono_sets.proofs.number_set.NumberSet.union.Goals as goal

pub returns : goal.returns
returns c = rw (← c.self.view_is, ← c.other.view_is) (λ k. has-or _ _ _ k refl)
