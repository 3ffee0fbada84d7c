-- Which patterns are separable: each text of them shows where every item ends.
use Rattle.std.specs.Prelude.{ℕ, ◌==◌, Bool, true, false, ◌&&◌, ◌||◌, if◌then◌else◌, List, [], ◌∷◌, Some, None}
use Rattle.std.specs.Char.{is_ascii_digit}
use Rattle.std.specs.Str.{byte}
use Rattle.chrono_pattern.specs.DateParts.{is_present}
use Rattle.chrono_pattern.specs.NamedParts.{named_parts}
use Rattle.chrono_pattern.specs.Needs.{has_item_of}
use Rattle.chrono_pattern.specs.NumberReads.{has_sign, most_digits}
use Rattle.chrono_pattern.specs.Numbers.{padding_of}
use Rattle.chrono_pattern.specs.PatternSteps.{pattern_step}
use Rattle.chrono_pattern.specs.Progress.{is_of, is_pattern_blank}
use Rattle.chrono_pattern.specs.declared.class.Class.TheVariants.{Gap}
use Rattle.chrono_pattern.specs.declared.item.Bar.{Bar}
use Rattle.chrono_pattern.specs.declared.item.Bar.TheVariants.{Free, NoDigit, NoFraction, NoPoint, NoMinutes}
use Rattle.chrono_pattern.specs.declared.item.Padding.{Padding}
use Rattle.chrono_pattern.specs.declared.item.Padding.TheVariants.{Zeros}
use Rattle.chrono_pattern.specs.declared.item.NumberField.{NumberField}
use Rattle.chrono_pattern.specs.declared.item.NumberField.TheVariants.{Century}
use Rattle.chrono_pattern.specs.declared.item.GroupField.{GroupField}
use Rattle.chrono_pattern.specs.declared.item.GroupField.TheVariants.{DayMonthYear, DateAndTime}
use Rattle.chrono_pattern.specs.declared.item.OffsetForm.{OffsetForm}
use Rattle.chrono_pattern.specs.declared.item.OffsetForm.TheVariants.{Hours}
use Rattle.chrono_pattern.specs.declared.item.ZonedField.{ZonedField}
use Rattle.chrono_pattern.specs.declared.item.ZonedField.TheVariants.{Offset, ZoneName, Stamp, Iso8601}
use Rattle.chrono_pattern.specs.declared.item.Item.{Item}
use Rattle.chrono_pattern.specs.declared.item.Item.TheVariants.{Empty, Byte, Number, Word, Group, Subsecond, Zoned}
use Rattle.chrono_pattern.specs.declared.needs.Sort.TheVariants.{OfPoint}
use Rattle.chrono_pattern.specs.declared.parsed.Parsed.{Parsed}
use Rattle.chrono_pattern.specs.declared.item.State.{State}
use Rattle.chrono_pattern.specs.declared.item.State.TheVariants.{Outside}

-- ---- where a number ends

-- zeros fill the number up
abbrev pub is_zeros : Padding → Bool
is_zeros Zeros = true
is_zeros _ = false

-- The number always has as many digits as are read at most. Every specifier with zeros asks for so many.
abbrev pub is_filled : NumberField → Padding → Bool
is_filled field padding = (most_digits field == 1) || is_zeros (padding_of field padding)

-- nothing that goes on as a number does may stand behind one with fewer digits, nor behind a year with a sign
abbrev pub bar_of_number : Bool → NumberField → Padding → Bar
bar_of_number wide field padding =
    if wide && has_sign field then NoDigit
    else if is_filled field padding then Free
    else NoDigit

-- ---- what may not stand behind an item

-- a group that ends with a year
abbrev pub bar_of_group : Bool → GroupField → Bar
bar_of_group wide DayMonthYear = if wide then NoDigit else Free
bar_of_group wide DateAndTime = if wide then NoDigit else Free
bar_of_group wide _ = Free

-- digits go on behind a point; where the time has no fraction, not even the point is there
abbrev pub bar_of_subsecond : Bool → ℕ → Bar
bar_of_subsecond point count = if point then (if count == 0 then NoFraction else NoDigit) else Free

-- hours alone read minutes behind colons and blanks
abbrev pub bar_of_form : OffsetForm → Bar
bar_of_form Hours = NoMinutes
bar_of_form _ = Free

abbrev pub bar_of_zoned : ZonedField → Bar
bar_of_zoned (Offset form) = bar_of_form form
bar_of_zoned ZoneName = Free
bar_of_zoned Stamp = NoDigit
bar_of_zoned Iso8601 = Free

-- behind a byte everything may stand, but colons and blanks do not part minutes from hours, nor blanks a point from a second
abbrev pub bar_of_byte : Bar → ℕ → Bar
bar_of_byte Free c = Free
bar_of_byte NoDigit c = Free
bar_of_byte NoFraction c = if is_pattern_blank c then NoPoint else Free
bar_of_byte NoPoint c = if is_pattern_blank c then NoPoint else Free
bar_of_byte NoMinutes c = if is_of Gap c then NoMinutes else Free

-- what may not stand behind the item, where so much may not stand in its place
abbrev pub bar_behind : Bool → Bar → Item → Bar
bar_behind wide bar Empty = bar
bar_behind wide bar (Byte c) = bar_of_byte bar c
bar_behind wide bar (Number field padding) = bar_of_number wide field padding
bar_behind wide bar (Word word) = Free
bar_behind wide bar (Group group) = bar_of_group wide group
bar_behind wide bar (Subsecond point count) = bar_of_subsecond point count
bar_behind wide bar (Zoned field) = bar_of_zoned field

-- ---- what an item begins with

-- no digit may stand here
abbrev pub bars_digit : Bar → Bool
bars_digit Free = false
bars_digit NoDigit = true
bars_digit NoFraction = true
bars_digit NoPoint = false
bars_digit NoMinutes = true

-- no point may stand here
abbrev pub bars_point : Bar → Bool
bars_point Free = false
bars_point NoDigit = false
bars_point NoFraction = true
bars_point NoPoint = true
bars_point NoMinutes = false

-- a digit may
abbrev pub takes_digit : Bar → Bool
takes_digit bar = if bars_digit bar then false else true

-- a point may
abbrev pub takes_point : Bar → Bool
takes_point bar = if bars_point bar then false else true

-- the byte may
abbrev pub takes_byte : Bar → ℕ → Bool
takes_byte bar c = (takes_digit bar || (if is_ascii_digit c then false else true)) && (takes_point bar || (if c == byte "." then false else true))

-- a fraction of as few digits as hold it may be none, and then what is behind it stands here
abbrev pub takes_few : Bar → Bool
takes_few Free = true
takes_few NoDigit = true
takes_few _ = false

-- a fraction
abbrev pub takes_subsecond : Bar → Bool → ℕ → Bool
takes_subsecond bar point count =
    if point then (if count == 0 then takes_few bar else takes_point bar)
    else if count == 0 then false
    else takes_digit bar

-- a century of two digits has no sign
abbrev pub takes_number : Bool → Bar → NumberField → Bool
takes_number wide bar Century = if wide then false else takes_digit bar
takes_number wide bar field = takes_digit bar

-- a group begins with a number, and one of them with a word
abbrev pub takes_group : Bar → GroupField → Bool
takes_group bar DateAndTime = true
takes_group bar _ = takes_digit bar

-- an offset begins with its sign; nothing reads the name of a zone
abbrev pub takes_zoned : Bar → ZonedField → Bool
takes_zoned bar (Offset form) = true
takes_zoned bar ZoneName = false
takes_zoned bar Stamp = takes_digit bar
takes_zoned bar Iso8601 = takes_digit bar

-- the item may stand where so much may not
abbrev pub takes_item : Bool → Bar → Item → Bool
takes_item wide bar Empty = true
takes_item wide bar (Byte c) = takes_byte bar c
takes_item wide bar (Number field padding) = takes_number wide bar field
takes_item wide bar (Word word) = true
takes_item wide bar (Group group) = takes_group bar group
takes_item wide bar (Subsecond point count) = takes_subsecond bar point count
takes_item wide bar (Zoned field) = takes_zoned bar field

-- ---- patterns

-- each item of the bytes may stand where it does
unfoldable pub is_separable_from : Bool → State → Bar → List ℕ → Bool
is_separable_from wide s bar [] = true
is_separable_from wide s bar (c ∷ bytes) = elim (pattern_step s c) [ None ↦ false | Some next ↦ takes_item wide bar next.1 && is_separable_from wide next.0 (bar_behind wide bar next.1) bytes ]

-- each text of the pattern shows where every item ends: for years from 0 to 9999, or for all years
abbrev pub shows_ends : Bool → List ℕ → Bool
shows_ends wide bytes = is_separable_from wide Outside Free bytes

-- the parts have a second: that of a minute, or those from 1970
abbrev pub has_second : Parsed → Bool
has_second p = is_present p.second || is_present p.timestamp

-- a fraction that stands behind a point in each text has its second, without which no text would name a time
abbrev pub fractions_have_seconds : List ℕ → Bool
fractions_have_seconds bytes = if has_item_of OfPoint Outside bytes then has_second (named_parts bytes) else true

-- the pattern shows where every item ends, and its fractions have their second
abbrev pub is_separable : Bool → List ℕ → Bool
is_separable wide bytes = shows_ends wide bytes && fractions_have_seconds bytes
