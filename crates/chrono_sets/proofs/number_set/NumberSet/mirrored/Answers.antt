use Rattle.std.proofs.Common.{◌-◌, ◌/◌, ◌^◌, refl, ap}
use Rattle.chrono_sets.proofs.Digits.{has-mirrored, has-past_mirror}
use Rattle.chrono_sets.proofs.number_set.NumberSet.mirrored.Goals as goal

pub returns-clause-members : goal.returns-clause-members
returns-clause-members c =
    rw (← c.self.view_is) (λ k le. has-mirrored _ _ c.args.last k c.requires le (ap (λ n. n / 2 ^ (63 - c.args.last)) c.reverse_bits.ensures))

pub returns-clause-small : goal.returns-clause-small
returns-clause-small c = λ k past. has-past_mirror _ c.reverse_bits.result c.args.last k c.requires past c.reverse_bits.type_inv refl
