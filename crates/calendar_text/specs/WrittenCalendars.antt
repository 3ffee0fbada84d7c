-- The lines that are written for a calendar.
use Rattle.std.specs.Prelude.{◌≡◌, ℕ, Bool, true, List, [], ◌∷◌, ◌++◌, Option, Some, None, IfSome, codes, ⊤}
use Rattle.std.specs.List.{flat_map}
use Rattle.calendar_text.specs.CalendarTexts.{CalendarParts}
use Rattle.calendar_text.specs.CalendarTimes.{CanBeReadBack, calendar_time_text}
use Rattle.calendar_text.specs.Lines.{is_local, is_of_class, property_key, text_in}
use Rattle.calendar_text.specs.declared.byte_class.ByteClass.TheVariants.{Safe, Rule as OfRule}
use Rattle.calendar_text.specs.declared.calendar_lines.CalendarLines.{CalendarLines}
use Rattle.calendar_text.specs.declared.calendar_time.CalendarTime.{CalendarTime}
use Rattle.calendar_text.specs.declared.calendar_time.CalendarTime.TheVariants.{Date, Local, Utc}
use Rattle.calendar_text.specs.declared.property.Property.{Property}
use Rattle.calendar_text.specs.declared.property.Property.TheVariants.{Start, Dates, Exceptions}

-- in front of the name of a zone
abbrev pub zone_mark : Option (List ℕ) → List ℕ
zone_mark None = []
zone_mark (Some name) = codes ";TZID="

-- the name
abbrev pub name_if_zoned : Option (List ℕ) → List ℕ
name_if_zoned None = []
name_if_zoned (Some name) = name

-- the parameter of a time, but for the name of a zone. A local time has that alone
unfoldable pub parameter_text : Option (List ℕ) → CalendarTime → List ℕ
parameter_text name (Date d) = codes ";VALUE=DATE"
parameter_text name (Local m) = zone_mark name
parameter_text name (Utc m) = []

unfoldable pub zone_in_line : Option (List ℕ) → CalendarTime → List ℕ
zone_in_line name (Date d) = []
zone_in_line name (Local m) = name_if_zoned name
zone_in_line name (Utc m) = []

-- a line with a time, and a line feed behind it
unfoldable pub time_line : Property → Option (List ℕ) → CalendarTime → List ℕ
time_line property zone t =
    (property_key property ++ parameter_text zone t) ++ (zone_in_line zone t ++ ((codes ":" ++ calendar_time_text t) ++ codes "\n"))

-- a line for each time
abbrev pub times_text : Property → Option (List ℕ) → List CalendarTime → List ℕ
times_text property zone times = flat_map (time_line property zone) times

-- the line of a rule, if there is one
unfoldable pub rule_line : Option (List ℕ) → List ℕ
rule_line None = []
rule_line (Some rule) = codes "RRULE:" ++ (rule ++ codes "\n")

-- DTSTART, RRULE, and a line RDATE or EXDATE for each time, in this order
unfoldable pub calendar_lines : CalendarParts → List ℕ
calendar_lines c =
    (time_line Start c.zone c.start ++ rule_line c.rule) ++ (times_text Dates c.zone c.dates ++ times_text Exceptions c.zone c.exceptions)

-- the parts of what is written
abbrev pub parts_written : CalendarLines → CalendarParts
parts_written c = record { start = c.start; zone = text_in c.zone; rule = text_in c.rule; dates = c.dates.now; exceptions = c.exceptions.now }

-- a time may stand in a list beside a start: a local time has the zone of a start that is local too
abbrev pub goes_with : CalendarTime → CalendarTime → Bool
goes_with start (Date d) = true
goes_with start (Local m) = is_local (Some start)
goes_with start (Utc m) = true

-- the times of a list can be read back, and go with the start
abbrev pub AreWritable : CalendarTime → List CalendarTime → Type 0
AreWritable start [] = ⊤
AreWritable start (t ∷ ts) = CanBeReadBack t × (goes_with start t ≡ true) × AreWritable start ts

-- what is written of these parts is read as the same parts. Each time can be read back. A zone has a name of safe bytes, and the start is
-- local. The rule has bytes of rules alone
pub record AreWritableParts (c : CalendarParts) : Type 0 where
  pub start : CanBeReadBack c.start
  pub zone : IfSome c.zone (λ name. (is_of_class Safe name ≡ true) × (is_local (Some c.start) ≡ true))
  pub rule : IfSome c.rule (λ rule. is_of_class OfRule rule ≡ true)
  pub dates : AreWritable c.start c.dates
  pub exceptions : AreWritable c.start c.exceptions
