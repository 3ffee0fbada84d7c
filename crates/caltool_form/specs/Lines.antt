-- The lines of an input.
use Rattle.std.specs.Prelude.{◌≡◌, ◌==◌, ◌≢◌, ℕ, All, List, [], ◌∷◌, ◌++◌, codes}
use Rattle.std.specs.List.{flat_map, slice_split, AllByRecursion}
use Rattle.std.specs.Str.{byte}

-- the parts of the bytes between the newlines
abbrev pub newline_parts : List ℕ → List (List ℕ)
newline_parts bytes = slice_split (λ x. x == byte "\n") bytes

-- all parts but the last
abbrev pub but_last : List (List ℕ) → List (List ℕ)
but_last [] = []
but_last (part ∷ []) = []
but_last (part ∷ next ∷ parts) = part ∷ but_last (next ∷ parts)

-- the last part
abbrev pub last_part : List (List ℕ) → List ℕ
last_part [] = []
last_part (part ∷ []) = part
last_part (part ∷ next ∷ parts) = last_part (next ∷ parts)

-- the lines that a newline ends
abbrev pub ended_lines : List ℕ → List (List ℕ)
ended_lines bytes = but_last (newline_parts bytes)

-- what stands after the last newline
abbrev pub rest_of : List ℕ → List ℕ
rest_of bytes = last_part (newline_parts bytes)

-- a last piece without a newline is a line if it is not empty
abbrev pub last_line : List ℕ → List (List ℕ)
last_line [] = []
last_line (x ∷ line) = (x ∷ line) ∷ []

-- the lines: the bytes cut at each newline
abbrev pub lines : List ℕ → List (List ℕ)
lines bytes = ended_lines bytes ++ last_line (rest_of bytes)

-- no byte is a newline
abbrev pub IsPiece : List ℕ → Type 0
IsPiece bytes = All (λ x. x ≢ byte "\n") bytes

-- the bytes are these lines, each ended by a newline, and then a rest
pub record IsCut (bytes : List ℕ) (cut : List (List ℕ)) (rest : List ℕ) : Type 0 where
  pub joined : bytes ≡ flat_map (λ line. line ++ codes "\n") cut ++ rest
  pub lines : AllByRecursion IsPiece cut
  pub last : IsPiece rest
