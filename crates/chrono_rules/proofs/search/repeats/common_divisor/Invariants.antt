-- A greatest common divisor of these two is one of the two that were given.
use Rattle.std.proofs.Common.{ℕ, ◌<◌}
use Rattle.std.specs.Int.{IsGcd}
use Rattle.chrono_rules.proofs.search.repeats.common_divisor.Given as goal

abbrev pub invariant-loop-rest : goal.invariant-loop-rest
invariant-loop-rest l = (0 < l.divisor) × ((g : ℕ) → IsGcd l.divisor l.rest g → IsGcd l.fn.one l.fn.other g)

abbrev pub decreases-loop-rest : goal.decreases-loop-rest
decreases-loop-rest l = l.rest
