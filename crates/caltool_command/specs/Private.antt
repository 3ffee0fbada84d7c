-- Words that clauses of private functions alone cite.
use Rattle.std.specs.Prelude.{◌≡◌, ◌<◌, ℕ, ℤ, List, length, drop, slice_index, Option}
use Rattle.std.specs.Str.{byte}
use Rattle.caltool_command.specs.Words.{words}
use Rattle.caltool_command.specs.Grammar.{numbers_of}

-- a space or the end
abbrev pub EndsWord : List ℕ → Type 0
EndsWord rest = 0 < length rest → slice_index rest 0 ≡ byte " "

-- the numbers behind the first space of a text
abbrev pub numbers_behind : List ℕ → Option (List ℤ)
numbers_behind text = numbers_of (drop 1 (words text))
