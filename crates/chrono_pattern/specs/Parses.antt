-- The values of a text by a pattern: its parts name one, and it fits them.
use Rattle.std.specs.Prelude.{◌≡◌, ◌-◌, ℕ, ℤ, pos, Bool, List, length, true, false, Ok, MatchResult}
use Rattle.chrono_datetime.specs.Moment.{Moment}
use Rattle.chrono_datetime.specs.Time.{TimeOfDay}
use Rattle.chrono_pattern.specs.DateParts.{date_fits, names_date}
use Rattle.chrono_pattern.specs.NamedParts.{sure_parts}
use Rattle.chrono_pattern.specs.Parts.{fault_of_parts}
use Rattle.chrono_pattern.specs.PatternItems.{pattern_items}
use Rattle.chrono_pattern.specs.Reads.{front_read, read_error, text_read}
use Rattle.chrono_pattern.specs.TextPieces.{ReadsFront}
use Rattle.chrono_pattern.specs.TimeParts.{names_time, time_fits}
use Rattle.chrono_pattern.specs.ZonedParts.{moment_fits, names_moment, names_zoned, zoned_fits}
use Rattle.chrono_pattern.specs.declared.error.PatternReadError.{PatternReadError}
use Rattle.chrono_pattern.specs.declared.error.ReadFault.TheVariants.{NotEnough}
use Rattle.chrono_pattern.specs.declared.parsed.Parsed.{Parsed}

-- the text is of the date, by the pattern
pub record IsDateBy (bytes text : List ℕ) (n : ℤ) : Type 0 where
  pub parts : Parsed
  pub read : text_read bytes text ≡ Ok parts
  pub named : names_date parts ≡ true
  pub fits : date_fits parts n ≡ true

-- the text is of the time of day, by the pattern
pub record IsTimeBy (bytes text : List ℕ) (t : TimeOfDay) : Type 0 where
  pub parts : Parsed
  pub read : text_read bytes text ≡ Ok parts
  pub named : names_time parts ≡ true
  pub fits : time_fits parts t ≡ true

-- the front of the text is of the date, by the pattern, and this is behind it
pub record IsDateInFront (bytes text : List ℕ) (n : ℤ) (rest : List ℕ) : Type 0 where
  pub parts : Parsed
  pub read : ReadsFront (pattern_items bytes) text parts rest
  pub named : names_date parts ≡ true
  pub fits : date_fits parts n ≡ true

-- the front of the text is of the time of day, by the pattern, and this is behind it
pub record IsTimeInFront (bytes text : List ℕ) (t : TimeOfDay) (rest : List ℕ) : Type 0 where
  pub parts : Parsed
  pub read : ReadsFront (pattern_items bytes) text parts rest
  pub named : names_time parts ≡ true
  pub fits : time_fits parts t ≡ true

-- the text is of the date-time, by the pattern
pub record IsMomentBy (bytes text : List ℕ) (m : Moment) : Type 0 where
  pub parts : Parsed
  pub read : text_read bytes text ≡ Ok parts
  pub named : names_moment parts ≡ true
  pub fits : moment_fits parts m (pos 0) ≡ true

-- the front of the text is of the date-time, by the pattern, and this is behind it
pub record IsMomentInFront (bytes text : List ℕ) (m : Moment) (rest : List ℕ) : Type 0 where
  pub parts : Parsed
  pub read : ReadsFront (pattern_items bytes) text parts rest
  pub named : names_moment parts ≡ true
  pub fits : moment_fits parts m (pos 0) ≡ true

-- the text is of the local date-time with an offset of x seconds, by the pattern
pub record IsZonedBy (bytes text : List ℕ) (m : Moment) (x : ℤ) : Type 0 where
  pub parts : Parsed
  pub read : text_read bytes text ≡ Ok parts
  pub named : names_zoned parts ≡ true
  pub fits : zoned_fits parts m x ≡ true

-- the front of the text is of the local date-time with that offset, by the pattern, and this is behind it
pub record IsZonedInFront (bytes text : List ℕ) (m : Moment) (x : ℤ) (rest : List ℕ) : Type 0 where
  pub parts : Parsed
  pub read : ReadsFront (pattern_items bytes) text parts rest
  pub named : names_zoned parts ≡ true
  pub fits : zoned_fits parts m x ≡ true

-- the error of a pattern whose specifiers name no such value: it reads nothing
abbrev pub not_named_error : PatternReadError
not_named_error = record { byte = 0; cause = NotEnough }

-- The error of a text that gives no value, by a pattern that may name one: where the reading stops, or else at the end of the text. There it
-- says that the parts do not suffice, if they name no value, and else that no value fits them all.
abbrev pub IsReadingError : (Parsed → Bool) → List ℕ → List ℕ → PatternReadError → Type 0
IsReadingError names bytes text e =
    MatchResult (text_read bytes text)
    (λ parts. (e.byte ≡ length text) × (e.cause ≡ fault_of_parts (names parts)))
    (λ stop. e ≡ read_error text stop)

-- the same of the front of a text, at whose end the error then stands
abbrev pub IsFrontReadingError : (Parsed → Bool) → List ℕ → List ℕ → PatternReadError → Type 0
IsFrontReadingError names bytes text e =
    MatchResult (front_read bytes text)
    (λ front. (e.byte ≡ length text - length front.rest) × (e.cause ≡ fault_of_parts (names front.parsed)))
    (λ stop. e ≡ read_error text stop)

-- the error of a text, where a pattern that may name no value reads none
pub record IsParseError (names : Parsed → Bool) (bytes text : List ℕ) (e : PatternReadError) : Type 0 where
  pub unnamed : names (sure_parts bytes) ≡ false → e ≡ not_named_error
  pub named : names (sure_parts bytes) ≡ true → IsReadingError names bytes text e

-- the same of the front of a text
pub record IsFrontParseError (names : Parsed → Bool) (bytes text : List ℕ) (e : PatternReadError) : Type 0 where
  pub unnamed : names (sure_parts bytes) ≡ false → e ≡ not_named_error
  pub named : names (sure_parts bytes) ≡ true → IsFrontReadingError names bytes text e
