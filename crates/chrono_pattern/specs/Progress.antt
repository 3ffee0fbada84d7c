-- How far a text is read, and the fronts of texts that readers look at.
use Rattle.std.specs.Prelude.{ℕ, ◌==◌, Bool, true, false, ◌&&◌, ◌||◌, if◌then◌else◌, nat_le, nat_lt, List, [], ◌∷◌, length, drop, ℤ, Result, Ok, Err}
use Rattle.std.specs.Char.{is_ascii_digit}
use Rattle.std.specs.List.{prefix_len}
use Rattle.std.specs.Str.{byte}
use Rattle.chrono_pattern.specs.Parts.{put}
use Rattle.chrono_pattern.specs.declared.error.ReadFault.{ReadFault}
use Rattle.chrono_pattern.specs.declared.error.ReadFault.TheVariants.{TooShort, Invalid}
use Rattle.chrono_pattern.specs.declared.parsed.Parsed.{Parsed}
use Rattle.chrono_pattern.specs.declared.parsed.Part.{Part}
use Rattle.chrono_pattern.specs.declared.class.Class.{Class}
use Rattle.chrono_pattern.specs.declared.class.Class.TheVariants.{Blank, Digit, Gap, Shown}
use Rattle.chrono_pattern.specs.declared.stop.Stop.{Stop}

-- what is left of a text, and the parts that were read
pub record Progress : Type 0 where
  pub rest : List ℕ
  pub parsed : Parsed

-- a blank is a space, a tab, a line feed, a vertical tab, a form feed or a carriage return
abbrev pub is_pattern_blank : ℕ → Bool
is_pattern_blank c = (c == byte " ") || (nat_le 9 c && nat_le c 13)

-- the byte is of the class
abbrev pub is_of : Class → ℕ → Bool
is_of Blank c = is_pattern_blank c
is_of Digit c = is_ascii_digit c
is_of Gap c = (c == byte ":") || is_pattern_blank c
is_of Shown c = if is_pattern_blank c then false else true

-- how many bytes of the class a text begins with
unfoldable pub class_len : Class → List ℕ → ℕ
class_len class text = prefix_len (is_of class) text

-- the text behind the blanks in front
abbrev pub behind_blanks : List ℕ → List ℕ
behind_blanks text = drop (class_len Blank text) text

-- what is wrong with a text that has not so many bytes, or other ones
abbrev pub fault_without : ℕ → List ℕ → ReadFault
fault_without least text = if nat_lt (length text) least then TooShort else Invalid

-- a reader stops in front of a text
abbrev pub stopped : ReadFault → List ℕ → Stop
stopped cause text = record { cause = cause; left = length text }

-- the parts that were read, and the rest of the text behind them; or why they are none, in front of a text
abbrev pub progress : Result Parsed ReadFault → List ℕ → List ℕ → Result Progress Stop
progress (Ok p) rest text = Ok (record { rest = rest; parsed = p })
progress (Err cause) rest text = Err (stopped cause text)

-- so many bytes of a text give a part
abbrev pub put_behind : ℕ → List ℕ → Part → ℤ → Parsed → Result Progress Stop
put_behind count text part v p = progress (put part v p) (drop count text) text

-- what is read behind what was read
abbrev pub then_read : Result Progress Stop → (Progress → Result Progress Stop) → Result Progress Stop
then_read (Ok r) next = next r
then_read (Err e) next = Err e

-- a text begins with the byte
abbrev pub byte_behind : ℕ → List ℕ → Parsed → Result Progress Stop
byte_behind c [] p = Err (stopped TooShort [])
byte_behind c (d ∷ rest) p = if d == c then Ok (record { rest = rest; parsed = p }) else Err (stopped Invalid (d ∷ rest))

abbrev pub byte_read : ℕ → Progress → Result Progress Stop
byte_read c r = byte_behind c r.rest r.parsed

-- a byte that stands for itself; a blank stands for any blanks and for none
unfoldable pub literal_read : ℕ → Progress → Result Progress Stop
literal_read c r = if is_pattern_blank c then Ok (record { rest = behind_blanks r.rest; parsed = r.parsed }) else byte_read c r
