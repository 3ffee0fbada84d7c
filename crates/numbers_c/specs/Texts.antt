-- A text that is written over the first of some bytes, and the version of the libraries.
use Rattle.std.specs.Prelude.{ℕ, ◌++◌, nat_le, if◌then◌else◌, List, codes, length, drop, Option, Some, None}

-- the text, if there is one and so many bytes hold it
abbrev pub text_within : ℕ → Option (List ℕ) → Option (List ℕ)
text_within room (Some text) = if nat_le (length text) room then Some text else None
text_within room None = None

-- the bytes of which the first are the text, if there is one
abbrev pub overwritten : Option (List ℕ) → List ℕ → List ℕ
overwritten (Some text) bytes = text ++ drop (length text) bytes
overwritten None bytes = bytes

-- how many bytes the text has, if there is one
abbrev pub length_of : Option (List ℕ) → Option ℕ
length_of (Some text) = Some (length text)
length_of None = None

-- the version of the libraries for C
abbrev pub version : List ℕ
version = codes "0.2.0-dev"
