-- Texts of calendars: DTSTART, RRULE, RDATE and EXDATE, one a line (RFC 5545, sections 3.8.2.4 and 3.8.5).
use Rattle.std.specs.Prelude.{◌≡◌, ℕ, if◌then◌else◌, List, [], length, Option, Some, None, Result, Ok, Err, find, codes, refl}
use Rattle.std.specs.List.{filter_map, flat_map}
use Rattle.std.specs.Option.{option_and_then, option_map}
use Rattle.std.specs.Str.{byte}
use Rattle.chrono_text.specs.Lists.{pieces}
use Rattle.calendar_text.specs.CalendarTimes.{time_of}
use Rattle.calendar_text.specs.Folds.{folded_place, unfolded}
use Rattle.calendar_text.specs.Lines.{head_of, is_line_of, has_class, nothing_seen, parameters_read, property_key, property_of, time_read, line_value, with_line, with_property, with_rule, with_start, zone_of}
use Rattle.calendar_text.specs.Reads.{calendar_error_at, placed_through, and_then_read}
use Rattle.calendar_text.specs.declared.calendar_error.CalendarTextError.{CalendarTextError}
use Rattle.calendar_text.specs.declared.calendar_error.CalendarTextFault.TheVariants.{NoStart, NotATime}
use Rattle.calendar_text.specs.declared.calendar_time.CalendarTime.{CalendarTime}
use Rattle.calendar_text.specs.declared.property.Property.{Property}
use Rattle.calendar_text.specs.declared.property.Property.TheVariants.{Start, Rule, Dates, Exceptions}

-- the lines of an unfolded text
abbrev pub content_lines : List ℕ → List (List ℕ)
content_lines text = pieces (byte "\n") text

-- the first line of a property
abbrev pub first_line : Property → List ℕ → Option (List ℕ)
first_line property text = find (is_line_of property) (content_lines text)

-- the times that a list writes
abbrev pub listed_times : List ℕ → List CalendarTime
listed_times value = filter_map time_of (pieces (byte ",") value)

-- the times of a line, if it is of a property
abbrev pub line_times : Property → List ℕ → List CalendarTime
line_times property line = if is_line_of property line then listed_times (line_value line) else []

-- those of all lines, one line after another
abbrev pub times_of : Property → List (List ℕ) → List CalendarTime
times_of property ls = flat_map (line_times property) ls

-- the time of DTSTART among what the lines have
abbrev pub started : ℕ → Option CalendarTime → Result CalendarTime CalendarTextError
started end None = Err (calendar_error_at end NoStart)
started end (Some t) = Ok t

-- all lines are read, with that of DTSTART, which has to be there
abbrev pub lines_read : List ℕ → Option (List ℕ) → Result CalendarTime CalendarTextError
lines_read text None = Err (calendar_error_at (length text) NoStart)
lines_read text (Some line) = and_then_read (placed_through (with_line line) nothing_seen 0 (content_lines text)) (λ s. started (length text) s.start)

-- the time of DTSTART, if the text has one and each line can be read; else the first error
unfoldable pub start_read : List ℕ → Result CalendarTime CalendarTextError
start_read text = lines_read text (first_line Start text)

-- what a text of a calendar has: the start, the zone of local times, the text of the rule, the times beside it, and those that are left out
pub record CalendarParts : Type 0 where
  pub start : CalendarTime
  pub zone : Option (List ℕ)
  pub rule : Option (List ℕ)
  pub dates : List CalendarTime
  pub exceptions : List CalendarTime

-- an unfolded text has these parts
pub record HasParts (text : List ℕ) (c : CalendarParts) : Type 0 where
  pub start : start_read text ≡ Ok c.start
  pub zone : option_and_then (λ line. zone_of (head_of line)) (first_line Start text) ≡ c.zone
  pub rule : option_map line_value (first_line Rule text) ≡ c.rule
  pub dates : times_of Dates (content_lines text) ≡ c.dates
  pub exceptions : times_of Exceptions (content_lines text) ≡ c.exceptions

-- a text of a calendar with these parts, folded or not
abbrev pub IsCalendarText : List ℕ → CalendarParts → Type 0
IsCalendarText text c = HasParts (unfolded text) c

-- the error of a text that is none: it is told where its byte stands in the folded text
abbrev pub IsCalendarError : List ℕ → CalendarTextError → Type 0
IsCalendarError text e = (u : CalendarTextError) × (start_read (unfolded text) ≡ Err u) × (e ≡ calendar_error_at (folded_place text u.byte) u.fault)

-- known values: no DTSTART, and a date with no VALUE
start_read-none : start_read (codes "RRULE:FREQ=DAILY\n") ≡ Err (calendar_error_at 17 NoStart)
unfolding start_read property_key
start_read-none = refl

start_read-short : start_read (codes "RRULE:FREQ=DAILY\nDTSTART:20240131T0900\n") ≡ Err (calendar_error_at 25 NotATime)
unfolding start_read property_key property_of with_line with_property with_start with_rule placed_through parameters_read time_read time_of has_class
start_read-short = refl
