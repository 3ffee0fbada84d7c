use Rattle.std.proofs.Common.{◌-◌, ap₂, arith}
use Rattle.std.proofs.lemmas.Nat.{one_shl}
use Rattle.chrono_sets.proofs.Digits.{has-range, ones_order}
use Rattle.chrono_sets.proofs.number_set.NumberSet.range.Goals as goal

pub overflow_sub-result : goal.overflow_sub-result
overflow_sub-result c = ones_order c.args.first c.args.end c.requires.order c.requires.end

pub returns : goal.returns
returns c =
    λ k. has-range _ c.args.first c.args.end k
    (ap₂ (λ high low. high - low) (one_shl c.args.end 64 c.requires.end) (one_shl c.args.first 64 (omega (arith, c.requires.order, c.requires.end))))
