-- The content lines of a calendar's text: "contentline = name *(";" param) ":" value CRLF" (RFC 5545, section 3.1). Names of properties and of
-- parameters, and the values of parameters, are "case-insensitive" (section 2).
use Rattle.std.specs.Prelude.{ℕ, ◌+◌, ◌==◌, nat_le, Bool, true, false, not, ◌&&◌, ◌||◌, if◌then◌else◌, List, [], ◌∷◌, length, drop, Option, Some, None, Result, Ok, Err, is_some, codes, ◌≡◌, refl}
use Rattle.std.specs.Borrow.{Bor}
use Rattle.std.specs.Char.{is_ascii_alphanumeric}
use Rattle.std.specs.List.{after_first, before_first, prefix_len}
use Rattle.std.specs.Option.{option_map}
use Rattle.std.specs.Str.{byte, str_eq_ignore_ascii_case}
use Rattle.chrono_text.specs.Lists.{begins_alike, pieces, stands_in}
use Rattle.calendar_text.specs.CalendarTimes.{time_of}
use Rattle.calendar_text.specs.Reads.{behind, calendar_error_at, placed_through, and_then_read}
use Rattle.calendar_text.specs.declared.byte_class.ByteClass.{ByteClass}
use Rattle.calendar_text.specs.declared.byte_class.ByteClass.TheVariants.{Safe, Rule as OfRule}
use Rattle.calendar_text.specs.declared.calendar_error.CalendarTextError.{CalendarTextError}
use Rattle.calendar_text.specs.declared.calendar_error.CalendarTextFault.{CalendarTextFault}
use Rattle.calendar_text.specs.declared.calendar_error.CalendarTextFault.TheVariants.{NoColon, UnknownProperty, PropertyTwice, UnknownParameter, ParameterTwice, NotAZoneName, UnknownValueType, ZoneOfDate, NotATime, OtherKind, OtherZone, NotARule}
use Rattle.calendar_text.specs.declared.calendar_time.CalendarTime.{CalendarTime}
use Rattle.calendar_text.specs.declared.calendar_time.CalendarTime.TheVariants.{Date, Local, Utc}
use Rattle.calendar_text.specs.declared.content_line.Kinds.{Kinds}
use Rattle.calendar_text.specs.declared.content_line.Seen.{Seen}
use Rattle.calendar_text.specs.declared.parameters.Parameters.{Parameters}
use Rattle.calendar_text.specs.declared.property.Property.{Property}
use Rattle.calendar_text.specs.declared.property.Property.TheVariants.{Start, Rule, Dates, Exceptions}

-- what an optional text is
abbrev pub text_in : Option (Bor (List ℕ)) → Option (List ℕ)
text_in text = option_map (λ (t : Bor (List ℕ)). t.now) text

-- what stands before the first colon of a line, and what stands behind it
abbrev pub head_of : List ℕ → List ℕ
head_of line = before_first (λ x. x == byte ":") line

abbrev pub line_value : List ℕ → List ℕ
line_value line = after_first (λ x. x == byte ":") line

-- the name in front of the parameters
abbrev pub property_name : List ℕ → List ℕ
property_name line = before_first (λ x. x == byte ";") (head_of line)

-- ---- bytes

-- "SAFE-CHAR = WSP / %x21 / %x23-2B / %x2D-39 / %x3C-7E / NON-US-ASCII": any character but controls, `"`, `;`, `:` and `,`. And the bytes of
-- a rule: letters, digits, signs, and what stands between
unfoldable pub has_class : ByteClass → ℕ → Bool
has_class Safe b = (nat_le 32 b || (b == byte "\t")) && not ((b == byte "\"") || ((b == byte ",") || ((b == byte ":") || ((b == byte ";") || (b == 127)))))
has_class OfRule b = is_ascii_alphanumeric b || ((b == byte "=") || ((b == byte ";") || ((b == byte ",") || ((b == byte "+") || (b == byte "-")))))

-- a text of a class: some bytes, each of the class
abbrev pub is_of_class : ByteClass → List ℕ → Bool
is_of_class class text = not (length text == 0) && (prefix_len (has_class class) text == length text)

-- ---- parameters

-- none
abbrev pub no_parameters : Parameters
no_parameters = record { has_zone = false; has_type = false; is_date = false }

-- "tzidparam = "TZID" "=" [tzidprefix] paramtext", and "paramtext = *SAFE-CHAR". The name is not empty here. 3.2.19: TZID "MUST NOT be applied
-- to DATE properties"
unfoldable pub with_zone : Parameters → List ℕ → Result Parameters CalendarTextError
with_zone p name =
    if p.has_zone then Err (calendar_error_at 0 ParameterTwice)
    else if p.is_date then Err (calendar_error_at 0 ZoneOfDate)
    else if is_of_class Safe name then Ok (record p { has_zone = true })
    else Err (calendar_error_at (5 + prefix_len (has_class Safe) name) NotAZoneName)

-- "VALUE" "=" ("DATE-TIME" / "DATE"). RDATE may also have PERIOD, which is not read here
unfoldable pub with_type : Parameters → List ℕ → Result Parameters CalendarTextError
with_type p word =
    if p.has_type then Err (calendar_error_at 0 ParameterTwice)
    else if str_eq_ignore_ascii_case word (codes "DATE") then (if p.has_zone then Err (calendar_error_at 0 ZoneOfDate) else Ok (record p { has_type = true; is_date = true }))
    else if str_eq_ignore_ascii_case word (codes "DATE-TIME") then Ok (record p { has_type = true })
    else Err (calendar_error_at 6 UnknownValueType)

-- one more parameter. Each is "OPTIONAL, but MUST NOT occur more than once"
unfoldable pub with_parameter : Parameters → List ℕ → Result Parameters CalendarTextError
with_parameter p text =
    if begins_alike (codes "TZID=") text then with_zone p (drop 5 text)
    else if begins_alike (codes "VALUE=") text then with_type p (drop 6 text)
    else Err (calendar_error_at 0 UnknownParameter)

-- the parameters in front of a line's colon, with a semicolon in front of each
unfoldable pub parameters_read : List ℕ → Result Parameters CalendarTextError
parameters_read head =
    if stands_in (byte ";") head
    then behind (length (before_first (λ x. x == byte ";") head) + 1) (placed_through with_parameter no_parameters 0 (pieces (byte ";") (after_first (λ x. x == byte ";") head)))
    else Ok no_parameters

-- the name of the zone in parameters
abbrev pub zone_of_parameters : List (List ℕ) → Option (List ℕ)
zone_of_parameters [] = None
zone_of_parameters (p ∷ ps) = if begins_alike (codes "TZID=") p then Some (drop 5 p) else zone_of_parameters ps

unfoldable pub zone_of : List ℕ → Option (List ℕ)
zone_of head = if stands_in (byte ";") head then zone_of_parameters (pieces (byte ";") (after_first (λ x. x == byte ";") head)) else None

-- ---- properties

-- the name of a property
unfoldable pub property_key : Property → List ℕ
property_key Start = codes "DTSTART"
property_key Rule = codes "RRULE"
property_key Dates = codes "RDATE"
property_key Exceptions = codes "EXDATE"

-- a text is the name of a property
abbrev pub is_name : Property → List ℕ → Bool
is_name property name = str_eq_ignore_ascii_case name (property_key property)

-- the property that has a name
unfoldable pub property_of : List ℕ → Option Property
property_of name =
    if is_name Start name then Some Start
    else if is_name Rule name then Some Rule
    else if is_name Dates name then Some Dates
    else if is_name Exceptions name then Some Exceptions
    else None

-- a line is of a property
abbrev pub is_line_of : Property → List ℕ → Bool
is_line_of property line = is_name property (property_name line)

-- ---- times of a line

-- the times that a line's parameters allow. 3.3.5: a local time has a TZID or none, and TZID "MUST NOT be applied" to times in UTC
abbrev pub kinds_of : Parameters → Bool → Kinds
kinds_of p same_zone = record { dates = p.is_date; locals = not p.is_date; utcs = not p.is_date && not p.has_zone; same_zone = same_zone }

-- what is wrong with a time in a line
unfoldable pub time_fault : Kinds → CalendarTime → Option CalendarTextFault
time_fault k (Date d) = if k.dates then None else Some OtherKind
time_fault k (Local m) = if not k.locals then Some OtherKind else if k.same_zone then None else Some OtherZone
time_fault k (Utc m) = if k.utcs then None else Some OtherKind

-- a time, unless that is wrong with it
abbrev pub unless_fault : CalendarTime → Option CalendarTextFault → Result CalendarTime CalendarTextError
unless_fault t None = Ok t
unless_fault t (Some fault) = Err (calendar_error_at 0 fault)

abbrev pub checked_time : Kinds → Option CalendarTime → Result CalendarTime CalendarTextError
checked_time k None = Err (calendar_error_at 0 NotATime)
checked_time k (Some t) = unless_fault t (time_fault k t)

-- the time that a text writes in a line
unfoldable pub time_read : Kinds → List ℕ → Result CalendarTime CalendarTextError
time_read k text = checked_time k (time_of text)

-- one more time of a list. `true` says that all so far are times
unfoldable pub with_time : Kinds → Bool → List ℕ → Result Bool CalendarTextError
with_time k before text = and_then_read (time_read k text) (λ t. Ok true)

-- two names of zones are one, in letters of either case; or there is none in both
abbrev pub same_zone : Option (List ℕ) → Option (List ℕ) → Bool
same_zone None None = true
same_zone None (Some b) = false
same_zone (Some a) None = false
same_zone (Some a) (Some b) = str_eq_ignore_ascii_case a b

-- a time is local
abbrev pub is_local : Option CalendarTime → Bool
is_local None = false
is_local (Some (Date d)) = false
is_local (Some (Local m)) = true
is_local (Some (Utc m)) = false

-- a line has local times of the same zone as the line of DTSTART
unfoldable pub zones_agree : List ℕ → List ℕ → Bool
zones_agree start head = is_local (time_of (line_value start)) && same_zone (zone_of head) (zone_of (head_of start))

-- ---- lines

-- what the lines so far have: the time of DTSTART, and a rule
abbrev pub nothing_seen : Seen
nothing_seen = record { start = None; has_rule = false }

-- DTSTART: parameters and one time. It "MUST NOT occur more than once"
unfoldable pub with_start : Seen → List ℕ → List ℕ → Result Seen CalendarTextError
with_start s head value =
    if is_some s.start then Err (calendar_error_at 0 PropertyTwice)
    else and_then_read (parameters_read head) (λ p. and_then_read (behind (length head + 1) (time_read (kinds_of p true) value)) (λ t. Ok (record s { start = Some t })))

-- RRULE: no parameter, and the bytes of a rule. The rule itself is not read. More than one is not read here
unfoldable pub with_rule : Seen → List ℕ → List ℕ → Result Seen CalendarTextError
with_rule s head value =
    if s.has_rule then Err (calendar_error_at 0 PropertyTwice)
    else if stands_in (byte ";") head then Err (calendar_error_at (length (before_first (λ x. x == byte ";") head) + 1) UnknownParameter)
    else if is_of_class OfRule value then Ok (record s { has_rule = true })
    else Err (calendar_error_at (length head + 1 + prefix_len (has_class OfRule) value) NotARule)

-- RDATE and EXDATE: parameters, and times with a comma between each two. A local time is in the zone of DTSTART
unfoldable pub with_list : List ℕ → Seen → List ℕ → List ℕ → Result Seen CalendarTextError
with_list start s head value =
    and_then_read (parameters_read head) (λ p.
    and_then_read (behind (length head + 1) (placed_through (with_time (kinds_of p (zones_agree start head))) false 0 (pieces (byte ",") value))) (λ t. Ok s))

-- a property with its parameters and its value
unfoldable pub with_property : List ℕ → Seen → List ℕ → List ℕ → Option Property → Result Seen CalendarTextError
with_property start s head value None = Err (calendar_error_at 0 UnknownProperty)
with_property start s head value (Some Start) = with_start s head value
with_property start s head value (Some Rule) = with_rule s head value
with_property start s head value (Some Dates) = with_list start s head value
with_property start s head value (Some Exceptions) = with_list start s head value

-- one more line. A line with no byte counts for nothing
unfoldable pub with_line : List ℕ → Seen → List ℕ → Result Seen CalendarTextError
with_line start s line =
    if length line == 0 then Ok s
    else if stands_in (byte ":") line then with_property start s (head_of line) (line_value line) (property_of (property_name line))
    else Err (calendar_error_at (length line) NoColon)

-- ---- known values: parameters that go together, and what is wrong with others, behind so many bytes
parameters_read-zone : parameters_read (codes "DTSTART;TZID=Europe/Berlin") ≡ Ok (record { has_zone = true; has_type = false; is_date = false })
unfolding parameters_read placed_through with_parameter with_zone has_class
parameters_read-zone = refl

parameters_read-small : parameters_read (codes "rdate;value=date") ≡ Ok (record { has_zone = false; has_type = true; is_date = true })
unfolding parameters_read placed_through with_parameter with_type
parameters_read-small = refl

parameters_read-both : parameters_read (codes "EXDATE;VALUE=DATE;TZID=UTC") ≡ Err (calendar_error_at 18 ZoneOfDate)
unfolding parameters_read placed_through with_parameter with_zone with_type
parameters_read-both = refl

parameters_read-twice : parameters_read (codes "RDATE;value=date;Value=DATE-TIME") ≡ Err (calendar_error_at 17 ParameterTwice)
unfolding parameters_read placed_through with_parameter with_type
parameters_read-twice = refl

parameters_read-period : parameters_read (codes "RDATE;VALUE=PERIOD") ≡ Err (calendar_error_at 12 UnknownValueType)
unfolding parameters_read placed_through with_parameter with_type
parameters_read-period = refl

parameters_read-quoted : parameters_read (codes "DTSTART;TZID=\"UTC\"") ≡ Err (calendar_error_at 13 NotAZoneName)
unfolding parameters_read placed_through with_parameter with_zone has_class
parameters_read-quoted = refl

parameters_read-empty : parameters_read (codes "DTSTART;TZID=") ≡ Err (calendar_error_at 13 NotAZoneName)
unfolding parameters_read placed_through with_parameter with_zone has_class
parameters_read-empty = refl

parameters_read-range : parameters_read (codes "DTSTART;RANGE=ALL") ≡ Err (calendar_error_at 8 UnknownParameter)
unfolding parameters_read placed_through with_parameter
parameters_read-range = refl

zone_of-behind : zone_of (codes "DTSTART;VALUE=DATE-TIME;tzid=Asia/Tokyo") ≡ Some (codes "Asia/Tokyo")
unfolding zone_of
zone_of-behind = refl

-- a name ends at a semicolon or a colon
is_line_of-small : is_line_of Dates (codes "rdate;VALUE=DATE:20240131") ≡ true
unfolding property_key
is_line_of-small = refl

is_line_of-longer : is_line_of Dates (codes "RDATES:20240131") ≡ false
unfolding property_key
is_line_of-longer = refl

-- bytes of a rule, and what is none
is_of_class-rule : is_of_class OfRule (codes "FREQ=MONTHLY;BYDAY=-1FR,+2MO;UNTIL=20241224T000000Z") ≡ true
unfolding has_class
is_of_class-rule = refl

is_of_class-blank : is_of_class OfRule (codes "FREQ=DAILY ") ≡ false
unfolding has_class
is_of_class-blank = refl
