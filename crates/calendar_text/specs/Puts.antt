-- Bytes that are put into a buffer.
use Rattle.std.specs.Prelude.{◌≡◌, ℕ, ◌+◌, ◌≤◌, ◌<◌, List, ◌++◌, length, take}

-- some bytes were put behind the first `len` bytes of a buffer, up to a place
pub record IsPut (old new : List ℕ) (len : ℕ) (bytes : List ℕ) (place : ℕ) : Type 0 where
  pub text : take place new ≡ take len old ++ bytes
  pub end : place ≡ len + length bytes
  pub within : place ≤ length new

-- they are too long for what the buffer has there
abbrev pub IsTooLong : List ℕ → ℕ → List ℕ → Type 0
IsTooLong old len bytes = length old < len + length bytes
