-- Offsets from UTC as texts write them (ISO 8601; RFC 3339, 5.6).
use Rattle.std.specs.Prelude.{◌≡◌, ℕ, ◌+◌, ◌*◌, ◌<◌, Bool, true, if◌then◌else◌, List, ◌∷◌, ◌++◌, Some}
use Rattle.std.specs.List.{list_all}
use Rattle.std.specs.Str.{byte}
use Rattle.chrono_text.specs.Numbers.{signed}
use Rattle.chrono_text.specs.Text.{two_digits}
use Rattle.chrono_pattern.specs.Parts.{no_parts}
use Rattle.chrono_pattern.specs.Progress.{is_of}
use Rattle.chrono_pattern.specs.declared.class.Class.TheVariants.{Blank, Gap}
use Rattle.chrono_pattern.specs.declared.parsed.Parsed.{Parsed}

-- a sign, hours and minutes of two digits, and what stands between them
abbrev pub offset_written : Bool → ℕ → List ℕ → ℕ → List ℕ
offset_written negative hours between minutes =
    (if negative then byte "-" else byte "+") ∷ (two_digits hours ++ (between ++ two_digits minutes))

-- a text gives an offset of less than a day: blanks or none, and the offset with colons and blanks or nothing between its numbers
pub record GivesOffset (text : List ℕ) (parts : Parsed) : Type 0 where
  pub negative : Bool
  pub hours : ℕ
  pub minutes : ℕ
  pub blanks : List ℕ
  pub between : List ℕ
  pub space : list_all (is_of Blank) blanks ≡ true
  pub gap : list_all (is_of Gap) between ≡ true
  pub day : hours < 24
  pub hour : minutes < 60
  pub written : text ≡ blanks ++ offset_written negative hours between minutes
  pub given : parts ≡ record no_parts { offset = Some (signed negative (hours * 3_600 + minutes * 60)) }
