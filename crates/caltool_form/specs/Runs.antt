-- What a run did to its reader and its writer, where their bytes are known.
use Rattle.std.specs.Prelude.{ℕ, List, Option, take}
use Rattle.std.specs.Io.KnownBytes.{Appends, Consumes, IsAtEnd}
use Rattle.caltool_form.specs.Answers.{output_of, answers_of}
use Rattle.caltool_form.specs.Lines.{ended_lines}

-- these bytes were read, and this text was written
pub record Answered (left left' held held' : Option (List ℕ)) (bytes text : List ℕ) : Type 0 where
  pub read : Consumes left left' bytes
  pub written : Appends held held' text

-- the input was read to its end, and its whole output written
abbrev pub AnsweredAll : (List ℕ → List ℕ) → Option (List ℕ) → Option (List ℕ) → Option (List ℕ) → Option (List ℕ) → Type 0
AnsweredAll answer left left' held held' =
    (bytes : List ℕ) × Answered left left' held held' bytes (output_of answer bytes) × IsAtEnd left'

-- of the bytes read, the lines that a newline ends are answered, and nothing else is written
abbrev pub AnsweredEnded : (List ℕ → List ℕ) → Option (List ℕ) → Option (List ℕ) → Option (List ℕ) → Option (List ℕ) → Type 0
AnsweredEnded answer left left' held held' =
    (bytes : List ℕ) × Answered left left' held held' bytes (answers_of answer (ended_lines bytes))

-- the writer got a first part of the output of the bytes read, or all of it
abbrev pub AnsweredPart : (List ℕ → List ℕ) → Option (List ℕ) → Option (List ℕ) → Option (List ℕ) → Option (List ℕ) → Type 0
AnsweredPart answer left left' held held' =
    (bytes : List ℕ) × (n : ℕ) × Answered left left' held held' bytes (take n (output_of answer bytes))
