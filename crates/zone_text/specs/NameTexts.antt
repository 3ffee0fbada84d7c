-- The names of time zones in the text of a rule (POSIX.1-2017, Base Definitions, section 8.3, TZ).
use Rattle.std.specs.Prelude.{◌≡◌, ◌==◌, ◌⊎◌, ◌≤◌, ℕ, Bool, ◌||◌, List, ◌∷◌, length, take, drop}
use Rattle.std.specs.Char.{is_ascii_alphabetic, is_ascii_digit}
use Rattle.std.specs.List.{prefix_len}
use Rattle.std.specs.Str.{byte}
use Rattle.chrono_text.specs.Lists.{is_of_word}

-- the bytes in front that pass a test, as many as there are
abbrev pub front_of : (ℕ → Bool) → List ℕ → List ℕ
front_of test text = take (prefix_len test text) text

-- what stands behind them
abbrev pub behind_front : (ℕ → Bool) → List ℕ → List ℕ
behind_front test text = drop (prefix_len test text) text

-- a digit, a colon or a sign, as offsets have them
abbrev pub is_of_offset : ℕ → Bool
is_of_offset c = is_ascii_digit c || ((c == byte ":") || ((c == byte "+") || (c == byte "-")))

-- a name of letters in front
pub record IsPlainName (text name rest : List ℕ) : Type 0 where
  pub front : front_of is_ascii_alphabetic text ≡ name
  pub behind : behind_front is_ascii_alphabetic text ≡ rest

-- A name in angle brackets in front: "alphanumeric characters from the portable character set, the plus-sign ('+') character, or the
-- minus-sign ('-') character".
pub record IsQuotedName (text name rest : List ℕ) : Type 0 where
  pub inner : List ℕ
  pub opens : text ≡ byte "<" ∷ inner
  pub front : front_of is_of_word inner ≡ name
  pub closes : behind_front is_of_word inner ≡ byte ">" ∷ rest

-- the text begins with a name, of three bytes or more, and goes on with the rest
pub record IsZoneName (text name rest : List ℕ) : Type 0 where
  pub long : 3 ≤ length name
  pub form : IsPlainName text name rest ⊎ IsQuotedName text name rest
