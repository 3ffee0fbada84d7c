-- Answers that exist in a year of the range alone, as every form gives them.
use Rattle.std.proofs.Common.{Option, Some, None, ℤ}
use Rattle.std.specs.Option.{SomeIff, option_map}

-- an answer in a year of the range, with the year
pub SomeIff-in_year : (r : Option ℤ) (P Q : Type 0) (v : ℤ) → P → SomeIff r Q v → SomeIff (option_map (λ (n : ℤ). n) r) (P × Q) v
SomeIff-in_year (Some n) P Q v p h = ((p, h.0), h.1)
SomeIff-in_year None P Q v p h = λ both. h both.1
