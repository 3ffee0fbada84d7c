use Rattle.std.proofs.Common.{refl}
use Rattle.chrono_sets.proofs.Digits.{has-past_weeks, has-weeks}
use Rattle.chrono_sets.proofs.number_set.NumberSet.every_week.Goals as goal

pub returns-clause-members : goal.returns-clause-members
returns-clause-members c = rw (← c.self.view_is) (λ k lt. has-weeks _ _ c.args.before k c.requires lt refl)

pub returns-clause-small : goal.returns-clause-small
returns-clause-small c = λ k past. has-past_weeks c.self.inside.digits _ c.args.before k past refl
