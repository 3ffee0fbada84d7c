-- Which date-times a separable pattern writes whole, and which parts its texts then give.
use Rattle.std.specs.Prelude.{◌≡◌, ℕ, ◌+◌, ◌-◌, ◌/◌, ◌%◌, ◌^◌, ◌==◌, nat_le, min, Bool, true, false, ◌&&◌, if◌then◌else◌, List, [], ◌∷◌, ℤ, pos, neg_ℤ, ◌-ℤ◌, unsigned_abs, Option, Some, None}
use Rattle.std.specs.Int.RustNames.{int_lt}
use Rattle.std.specs.Ordering.{int_eq}
use Rattle.chrono_datetime.specs.Days.{year_of}
use Rattle.chrono_datetime.specs.Duration.{nanos_per_second}
use Rattle.chrono_datetime.specs.Moment.{Moment}
use Rattle.chrono_datetime.specs.Time.{IsTime, TimeOfDay, is_leap, second_of}
use Rattle.chrono_datetime.specs.Weeks.{iso_year_of}
use Rattle.chrono_instant.specs.Instants.{epoch_second}
use Rattle.chrono_instant.specs.Offsets.{IsOffset}
use Rattle.chrono_pattern.specs.DateParts.{in_window, is_present}
use Rattle.chrono_pattern.specs.NamedParts.{with_group, with_item, with_named}
use Rattle.chrono_pattern.specs.PatternSteps.{pattern_step}
use Rattle.chrono_pattern.specs.declared.parsed.Parsed.{Parsed}
use Rattle.chrono_pattern.specs.declared.parsed.Part.TheVariants.{NanosecondOfSecond, OffsetFromUtc}
use Rattle.chrono_pattern.specs.Parts.{no_parts}
use Rattle.chrono_pattern.specs.declared.item.NumberField.{NumberField}
use Rattle.chrono_pattern.specs.declared.item.NumberField.TheVariants.{Year, Century, IsoYear}
use Rattle.chrono_pattern.specs.declared.item.GroupField.{GroupField}
use Rattle.chrono_pattern.specs.declared.item.GroupField.TheVariants.{YearMonthDay, HourMinuteSecond, DayMonthYear, DateAndTime}
use Rattle.chrono_pattern.specs.declared.item.OffsetForm.{OffsetForm}
use Rattle.chrono_pattern.specs.declared.item.OffsetForm.TheVariants.{Plain, Colon, Seconds, Hours, Loose}
use Rattle.chrono_pattern.specs.declared.item.ZonedField.{ZonedField}
use Rattle.chrono_pattern.specs.declared.item.ZonedField.TheVariants.{Offset, ZoneName, Stamp, Iso8601}
use Rattle.chrono_pattern.specs.declared.item.Item.{Item}
use Rattle.chrono_pattern.specs.declared.item.Item.TheVariants.{Empty, Byte, Number, Word, Group, Subsecond, Zoned}
use Rattle.chrono_pattern.specs.declared.item.State.{State}
use Rattle.chrono_pattern.specs.declared.item.State.TheVariants.{Outside}

-- the year is from 0 to 9999; or it has at most nine digits, as each year of a date has
abbrev pub keeps_year : Bool → ℤ → Bool
keeps_year wide y =
    if wide then nat_le (unsigned_abs y) 999_999_999
    else if int_lt y (pos 0) then false
    else nat_le (unsigned_abs y) 9_999

-- a number loses nothing but of a year
abbrev pub keeps_number : Bool → NumberField → Moment → Bool
keeps_number wide Year m = keeps_year wide (year_of m.date)
keeps_number wide IsoYear m = keeps_year wide (iso_year_of m.date)
keeps_number wide Century m = keeps_year false (year_of m.date)
keeps_number wide _ m = true

-- a group that ends with a year loses what the year does
abbrev pub keeps_group : Bool → GroupField → Moment → Bool
keeps_group wide YearMonthDay m = keeps_year true (year_of m.date)
keeps_group wide DayMonthYear m = keeps_year wide (year_of m.date)
keeps_group wide DateAndTime m = keeps_year wide (year_of m.date)
keeps_group wide _ m = true

-- the fraction of the second has no more digits than are written
abbrev pub keeps_subsecond : ℕ → TimeOfDay → Bool
keeps_subsecond count t = if count == 0 then true else t.fraction % nanos_per_second % 10 ^ (9 - min count 9) == 0

-- an offset of so many seconds is of whole minutes, or of whole hours where these alone are written
abbrev pub keeps_form : OffsetForm → ℕ → Bool
keeps_form Plain n = n % 60 == 0
keeps_form Colon n = n % 60 == 0
keeps_form Seconds n = true
keeps_form Hours n = n % 3_600 == 0
keeps_form Loose n = n % 60 == 0

-- the seconds from 1970 are of a date
abbrev pub keeps_stamp : ℤ → Bool
keeps_stamp s =
    if int_lt s (neg_ℤ (pos 8_334_601_228_800)) then false
    else if int_lt (pos 8_210_266_876_799) s then false
    else true

abbrev pub keeps_zoned : ZonedField → Moment → ℤ → Bool
keeps_zoned (Offset form) m x = keeps_form form (unsigned_abs x)
keeps_zoned ZoneName m x = false
keeps_zoned Stamp m x = keeps_stamp (epoch_second m -ℤ x)
keeps_zoned Iso8601 m x = keeps_year true (year_of m.date) && keeps_form Colon (unsigned_abs x)

-- the item is written whole
abbrev pub keeps_item : Bool → Item → Moment → ℤ → Bool
keeps_item wide Empty m x = true
keeps_item wide (Byte c) m x = true
keeps_item wide (Number field padding) m x = keeps_number wide field m
keeps_item wide (Word word) m x = true
keeps_item wide (Group group) m x = keeps_group wide group m
keeps_item wide (Subsecond point count) m x = keeps_subsecond count m.time
keeps_item wide (Zoned field) m x = keeps_zoned field m x

-- each item of the bytes is
unfoldable pub keeps_from : Bool → State → List ℕ → Moment → ℤ → Bool
keeps_from wide s [] m x = true
keeps_from wide s (c ∷ bytes) m x = elim (pattern_step s c) [ None ↦ false | Some next ↦ keeps_item wide next.1 m x && keeps_from wide next.0 bytes m x ]

-- The pattern loses nothing of a local date-time where the clock is x seconds ahead of UTC, but what it does not name. This is so of every
-- whole second of the years 0 to 9999, or of all years, at an offset of whole hours.
pub record LosesNothing (wide : Bool) (bytes : List ℕ) (m : Moment) (x : ℤ) : Type 0 where
  pub time : IsTime m.time
  pub offset : IsOffset x
  pub items : keeps_from wide Outside bytes m x ≡ true

-- ---- the parts that are given

-- a fraction of as few digits as hold it is not given where the time has none
abbrev pub with_few : TimeOfDay → Parsed → Parsed
with_few t p = if t.fraction % nanos_per_second == 0 then p else with_named NanosecondOfSecond p

-- the parts with those that the text of an item gives
abbrev pub with_given : Item → TimeOfDay → Parsed → Parsed
with_given (Subsecond point count) t p = if count == 0 then with_few t p else with_named NanosecondOfSecond p
with_given (Zoned Iso8601) t p = with_named OffsetFromUtc (with_few t (with_group HourMinuteSecond (with_group YearMonthDay p)))
with_given item t p = with_item item p

-- the parts with those of the items of the bytes
unfoldable pub given_from : State → List ℕ → TimeOfDay → Parsed → Parsed
given_from s [] t p = p
given_from s (c ∷ bytes) t p = elim (pattern_step s c) [ None ↦ p | Some next ↦ given_from next.0 bytes t (with_given next.1 t p) ]

-- the parts that the text of a time gives: all that the pattern names, but `%.f` only where there is a fraction
abbrev pub given_parts : List ℕ → TimeOfDay → Parsed
given_parts bytes t = given_from Outside bytes t no_parts

-- ---- what the parts tell

-- a part that is not named is 0
abbrev pub is_told : Option ℤ → ℤ → Bool
is_told None v = int_eq v (pos 0)
is_told (Some w) v = true

-- the named parts tell the year of the date: a year of the century alone is one of 1970 to 2069
abbrev pub tells_date : Parsed → ℤ → Bool
tells_date p n = in_window p.year p.year_div_100 p.year_mod_100 (year_of n)

-- the named parts tell the second of the time and its fraction
abbrev pub tells_time : Parsed → TimeOfDay → Bool
tells_time p t = is_told p.second (pos (second_of t + t.fraction / nanos_per_second)) && is_told p.nanosecond (pos (t.fraction % nanos_per_second))

-- beside the seconds from 1970 they tell its fraction, and whether it is in a leap second
abbrev pub tells_fraction : Parsed → TimeOfDay → Bool
tells_fraction p t = (if is_leap t then is_present p.second else true) && is_told p.nanosecond (pos (t.fraction % nanos_per_second))

-- the named parts tell the date-time
abbrev pub tells_moment : Parsed → Moment → Bool
tells_moment p m = tells_date p m.date && (if is_present p.timestamp then tells_fraction p m.time else tells_time p m.time)

-- the named parts tell the date-time and its offset
abbrev pub tells_zoned : Parsed → Moment → ℤ → Bool
tells_zoned p m x = is_told p.offset x && tells_moment p m
