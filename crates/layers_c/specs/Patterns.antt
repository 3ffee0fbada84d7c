-- Patterns and texts by the numbers of C.
use Rattle.std.specs.Prelude.{◌≡◌, ℕ, ◌-◌, ◌≤◌, ◌^◌, nat_le, Bool, if◌then◌else◌, false, List, [], ◌∷◌, length, Option, Some, ℤ, pos}
use Rattle.std.specs.Option.{option_map}
use Rattle.chrono_datetime.specs.Moment.{Moment, moment}
use Rattle.chrono_clock.specs.Time.{time_at}
use Rattle.chrono_pattern.specs.ErrorTexts.{pattern_error_text, read_error_text}
use Rattle.chrono_pattern.specs.Needs.{needs_offset, needs_time}
use Rattle.chrono_pattern.specs.Patterns.{IsPattern, pattern_text}
use Rattle.chrono_pattern.specs.declared.error.PatternError.{PatternError}
use Rattle.chrono_pattern.specs.declared.error.PatternFault.{PatternFault}
use Rattle.chrono_pattern.specs.declared.error.PatternFault.TheVariants.{Cut, Unknown}
use Rattle.chrono_pattern.specs.declared.error.PatternReadError.{PatternReadError}
use Rattle.chrono_pattern.specs.declared.error.ReadFault.{ReadFault}
use Rattle.chrono_pattern.specs.declared.error.ReadFault.TheVariants.{Impossible, Invalid, NotEnough, OutOfRange, TooLong, TooShort}
use Rattle.chrono_pattern.specs.DateParts.{is_present}
use Rattle.chrono_pattern.specs.NamedParts.{named_parts}
use Rattle.numbers_c.specs.DateTimes.{numbers_for_c}
use Rattle.numbers_c.specs.Texts.{overwritten}
use Rattle.layers_c.specs.Faults.{numbered}
use Rattle.layers_c.specs.declared.faults.CalendarFault.{CalendarFault}
use Rattle.layers_c.specs.declared.patterns.CalendarZoned.{CalendarZoned}

-- what can be wrong with a pattern, numbered from 1
abbrev pub pattern_faults : List PatternFault
pattern_faults = Unknown ∷ Cut ∷ []

-- what can be wrong with a text, numbered from 3
abbrev pub read_faults : List ReadFault
read_faults = TooShort ∷ TooLong ∷ Invalid ∷ OutOfRange ∷ Impossible ∷ NotEnough ∷ []

-- what is wrong with a pattern, by the numbers of a fault
unfoldable pub pattern_error_from_c : CalendarFault → Option PatternError
pattern_error_from_c a = option_map (λ cause. record { byte = a.byte; cause = cause }) (numbered pattern_faults a.code)

-- what is wrong with a text, by the numbers of a fault
unfoldable pub read_error_from_c : CalendarFault → Option PatternReadError
read_error_from_c a = option_map (λ cause. record { byte = a.byte; cause = cause }) (numbered read_faults (a.code - 2))

-- what a fault says, if there is such a fault: the line of a pattern's error by the first two numbers, and of a text's error by the others
abbrev pub pattern_line_from_c : CalendarFault → Option (List ℕ)
pattern_line_from_c a =
    if nat_le a.code 2 then option_map pattern_error_text (pattern_error_from_c a) else option_map read_error_text (read_error_from_c a)

-- a fault has no field, and goes on to the end of the pattern or of the text
pub record GoesToEnd (text : List ℕ) (fault : CalendarFault) : Type 0 where
  pub field : fault.field ≡ 0
  pub end : fault.end ≡ length text

-- the date at midnight, whose text a pattern without a time of day writes
abbrev pub midnight_of : ℤ → Moment
midnight_of date = moment date (time_at 0 0 0 0)

-- the three numbers of a local date-time and of how far its clock is ahead of UTC, and those of none
abbrev pub zoned_numbers : Moment → ℤ → CalendarZoned
zoned_numbers m x = record { seconds = (numbers_for_c m).seconds; nanos = m.time.fraction; offset = x }

-- the numbers where there is no date-time
abbrev pub no_zoned_numbers : CalendarZoned
no_zoned_numbers = record { seconds = pos 0; nanos = 2 ^ 32 - 1; offset = pos 0 }

-- the pattern reads an offset from UTC
abbrev pub reads_offset : List ℕ → Bool
reads_offset pattern = is_present (named_parts pattern).offset

-- a text was written over the first bytes
pub record IsWritten (text before after : List ℕ) (result : ℤ) : Type 0 where
  pub bytes : after ≡ overwritten (Some text) before
  pub count : result ≡ pos (length text)

-- the text of a date fits, by a pattern that needs neither a time of day nor an offset
pub record FitsDate (pattern : List ℕ) (date : ℤ) (room : ℕ) : Type 0 where
  pub pattern_is : IsPattern pattern
  pub timeless : needs_time pattern ≡ false
  pub local : needs_offset pattern ≡ false
  pub short : length (pattern_text pattern (midnight_of date)) ≤ 1000
  pub within : length (pattern_text pattern (midnight_of date)) ≤ room

-- the text of a date-time fits, by a pattern that needs no offset
pub record FitsMoment (pattern : List ℕ) (m : Moment) (room : ℕ) : Type 0 where
  pub pattern_is : IsPattern pattern
  pub local : needs_offset pattern ≡ false
  pub short : length (pattern_text pattern m) ≤ 1000
  pub within : length (pattern_text pattern m) ≤ room
