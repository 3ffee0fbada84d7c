-- What is printed of a text in pieces, and what waits to be printed.
use Rattle.std.specs.Prelude.{◌≡◌, ℕ, List, ◌++◌, Result, IsOk}
use Rattle.std.specs.Fmt.{WritesOnOk, WritesStyledOnOk}
use Rattle.std.specs.declared.fmt.Error.{Error}
use Rattle.std.specs.declared.fmt.Formatter.{Formatter}

-- a piece is added to what waits: some of the two is printed, and the rest waits then
pub record IsAdded {W : Type 0} (took : W → List ℕ → W → Type 0) (f : Formatter W) (result : Result (Unit {0}) Error) (waits added left : List ℕ) (g : Formatter W) : Type 0 where
  pub printed : List ℕ
  pub whole : IsOk result → printed ++ left ≡ waits ++ added
  pub plain : WritesOnOk took f result printed g
  pub styled : WritesStyledOnOk took f result printed g
