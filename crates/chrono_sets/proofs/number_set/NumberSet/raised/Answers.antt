use Rattle.std.proofs.Common.{refl, arith}
use Rattle.chrono_sets.proofs.Digits.{has-above, has-raised}
use Rattle.chrono_sets.proofs.number_set.NumberSet.raised.Goals as goal

pub returns-clause-members : goal.returns-clause-members
returns-clause-members c = rw (← c.self.view_is) (λ k lt. has-raised _ _ c.args.by k lt refl)

pub returns-clause-small : goal.returns-clause-small
returns-clause-small c = λ k le. has-above _ 64 k (omega arith) le
