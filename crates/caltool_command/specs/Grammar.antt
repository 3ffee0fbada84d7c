-- The lines that are a command word and whole numbers.
use Rattle.std.specs.Prelude.{◌≡◌, ℕ, ℤ, FitsSigned, List, [], ◌∷◌, ◌++◌, codes, Option, Some, None}
use Rattle.std.specs.Int.{w64}
use Rattle.std.specs.Option.{option_map, option_and_then}
use Rattle.caltool_command.specs.Words.{words, IsWord}
use Rattle.chrono_text.specs.Numbers.{WritesNumber, i64_of}

-- the numbers that these texts write, each of them an `i64`, as every command's numbers are
unfoldable pub numbers_of : List (List ℕ) → Option (List ℤ)
numbers_of [] = Some []
numbers_of (text ∷ texts) =
    option_and_then (λ number. option_map (λ numbers. number ∷ numbers) (numbers_of texts)) (i64_of text)

-- the first of the words, and the numbers that the others write
abbrev pub arguments_from : List (List ℕ) → Option (List ℕ × List ℤ)
arguments_from [] = None
arguments_from (name ∷ texts) = option_map (λ numbers. (name, numbers)) (numbers_of texts)

-- the command word and the numbers of a line
unfoldable pub arguments_of : List ℕ → Option (List ℕ × List ℤ)
arguments_of line = arguments_from (words line)

-- the rest of a line writes these numbers, each of them an `i64`, with one space before each
abbrev pub WritesNumbers : List ℕ → List ℤ → Type 0
WritesNumbers rest [] = rest ≡ []
WritesNumbers rest (number ∷ numbers) =
    (text : List ℕ) × (others : List ℕ) × (rest ≡ codes " " ++ text ++ others) × WritesNumber text number × FitsSigned w64 number × WritesNumbers others numbers

-- a command word without a space, and then numbers with one space before each
pub record IsCommandLine (line name : List ℕ) (numbers : List ℤ) : Type 0 where
  pub rest : List ℕ
  pub joined : line ≡ name ++ rest
  pub plain : IsWord name
  pub written : WritesNumbers rest numbers
