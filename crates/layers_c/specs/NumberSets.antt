-- Sets of numbers as whole numbers.
use Rattle.std.specs.Prelude.{ℕ}
use Rattle.chrono_sets.specs.FiniteSets.{FiniteSet}

-- the set of the numbers k whose digit for 2^k is 1
abbrev pub set_of_digits : ℕ → FiniteSet
set_of_digits digits = record { code = digits }
