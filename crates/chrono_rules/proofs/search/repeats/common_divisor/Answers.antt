use Rattle.std.proofs.Common.{arith}
use Rattle.std.proofs.lemmas.Nat.Gcd.{IsGcd-from_mod, IsGcd-from_zero}
use Rattle.chrono_rules.proofs.search.repeats.common_divisor.Goals as goal

pub loop-rest-preserved : goal.loop-rest-preserved
loop-rest-preserved c = (omega arith, λ g h. c.loop-rest.invariant.1 g (IsGcd-from_mod c.loop-rest.divisor c.loop-rest.rest g h))

pub returns-clause-divisor : goal.returns-clause-divisor
returns-clause-divisor c =
    c.loop-rest.invariant.1 c.loop-rest.divisor (IsGcd-from_zero c.loop-rest.divisor c.loop-rest.rest (omega arith))
