use Rattle.std.proofs.Common.{◌-◌, ap₂, bit_and, arith}
use Rattle.std.proofs.lemmas.Nat.{one_shl}
use Rattle.chrono_sets.proofs.Digits.{has-between, ones_order}
use Rattle.chrono_sets.proofs.number_set.NumberSet.between.Goals as goal

pub overflow_sub-result : goal.overflow_sub-result
overflow_sub-result c = ones_order c.args.from c.args.end c.requires.order c.requires.end

pub returns : goal.returns
returns c =
    rw (← c.self.view_is)
    (λ k. has-between _ _ c.args.from c.args.end k
    (ap₂ (λ high low. bit_and c.self.inside.digits (high - low)) (one_shl c.args.end 64 c.requires.end) (one_shl c.args.from 64 (omega (arith, c.requires.order, c.requires.end)))))
