-- Which patterns write a part of a date, of the time of day or of the offset from UTC, and which give a fraction in each text.
use Rattle.std.specs.Prelude.{ℕ, ◌==◌, Bool, true, false, not, ◌&&◌, ◌||◌, List, [], ◌∷◌, Some, None}
use Rattle.chrono_pattern.specs.PatternSteps.{pattern_step}
use Rattle.chrono_pattern.specs.declared.item.NumberField.{NumberField}
use Rattle.chrono_pattern.specs.declared.item.NumberField.TheVariants.{Hour, SpacedHour, HalfHour, SpacedHalfHour, Minute, Second, Nanosecond}
use Rattle.chrono_pattern.specs.declared.item.WordField.{WordField}
use Rattle.chrono_pattern.specs.declared.item.WordField.TheVariants.{Half, SmallHalf}
use Rattle.chrono_pattern.specs.declared.item.GroupField.{GroupField}
use Rattle.chrono_pattern.specs.declared.item.GroupField.TheVariants.{HourMinute, HourMinuteSecond, HalfClock, DateAndTime}
use Rattle.chrono_pattern.specs.declared.item.ZonedField.{ZonedField}
use Rattle.chrono_pattern.specs.declared.item.ZonedField.TheVariants.{Offset, ZoneName, Stamp, Iso8601}
use Rattle.chrono_pattern.specs.declared.item.Item.{Item}
use Rattle.chrono_pattern.specs.declared.item.Item.TheVariants.{Empty, Byte, Number, Word, Group, Subsecond, Zoned}
use Rattle.chrono_pattern.specs.declared.item.State.{State}
use Rattle.chrono_pattern.specs.declared.item.State.TheVariants.{Outside}
use Rattle.chrono_pattern.specs.declared.needs.Sort.{Sort}
use Rattle.chrono_pattern.specs.declared.needs.Sort.TheVariants.{OfDate, OfTime, OfOffset, OfFraction, OfPoint}

-- the number is of the time of day
abbrev pub number_needs_time : NumberField → Bool
number_needs_time Hour = true
number_needs_time SpacedHour = true
number_needs_time HalfHour = true
number_needs_time SpacedHalfHour = true
number_needs_time Minute = true
number_needs_time Second = true
number_needs_time Nanosecond = true
number_needs_time _ = false

-- the word is
abbrev pub word_needs_time : WordField → Bool
word_needs_time Half = true
word_needs_time SmallHalf = true
word_needs_time _ = false

-- the group is
abbrev pub group_needs_time : GroupField → Bool
group_needs_time HourMinute = true
group_needs_time HourMinuteSecond = true
group_needs_time HalfClock = true
group_needs_time DateAndTime = true
group_needs_time _ = false

-- the piece is; the seconds from 1970 count those of the day
abbrev pub zoned_needs_time : ZonedField → Bool
zoned_needs_time (Offset form) = false
zoned_needs_time ZoneName = false
zoned_needs_time Stamp = true
zoned_needs_time Iso8601 = true

-- the item is
abbrev pub item_needs_time : Item → Bool
item_needs_time Empty = false
item_needs_time (Byte c) = false
item_needs_time (Number field p) = number_needs_time field
item_needs_time (Word word) = word_needs_time word
item_needs_time (Group group) = group_needs_time group
item_needs_time (Subsecond point count) = true
item_needs_time (Zoned field) = zoned_needs_time field

-- the number is of a date: each other one
abbrev pub number_needs_date : NumberField → Bool
number_needs_date field = not (number_needs_time field)

-- the word is
abbrev pub word_needs_date : WordField → Bool
word_needs_date word = not (word_needs_time word)

-- the group is
abbrev pub group_needs_date : GroupField → Bool
group_needs_date HourMinute = false
group_needs_date HourMinuteSecond = false
group_needs_date HalfClock = false
group_needs_date _ = true

-- the item is; a piece of a date and a time of day is of both
abbrev pub item_needs_date : Item → Bool
item_needs_date Empty = false
item_needs_date (Byte c) = false
item_needs_date (Number field p) = number_needs_date field
item_needs_date (Word word) = word_needs_date word
item_needs_date (Group group) = group_needs_date group
item_needs_date (Subsecond point count) = false
item_needs_date (Zoned field) = zoned_needs_time field

-- the piece is of an offset
abbrev pub zoned_needs_offset : ZonedField → Bool
zoned_needs_offset (Offset form) = true
zoned_needs_offset ZoneName = true
zoned_needs_offset Stamp = false
zoned_needs_offset Iso8601 = true

-- the item is
abbrev pub item_needs_offset : Item → Bool
item_needs_offset (Zoned field) = zoned_needs_offset field
item_needs_offset _ = false

-- the number is a fraction of a second
abbrev pub is_fraction : NumberField → Bool
is_fraction Nanosecond = true
is_fraction _ = false

-- each text of the item gives a fraction of a second; one behind a point may be left out
abbrev pub gives_fraction : Item → Bool
gives_fraction (Number field p) = is_fraction field
gives_fraction (Subsecond point count) = not point
gives_fraction _ = false

-- each text that the item writes has a fraction behind a point
abbrev pub writes_point : Item → Bool
writes_point (Subsecond point count) = point && not (count == 0)
writes_point _ = false

-- the item is of the sort
abbrev pub is_item_of : Sort → Item → Bool
is_item_of OfDate item = item_needs_date item
is_item_of OfTime item = item_needs_time item
is_item_of OfOffset item = item_needs_offset item
is_item_of OfFraction item = gives_fraction item
is_item_of OfPoint item = writes_point item

-- some item of the bytes is
unfoldable pub has_item_of : Sort → State → List ℕ → Bool
has_item_of sort s [] = false
has_item_of sort s (c ∷ bytes) = elim (pattern_step s c) [ None ↦ false | Some next ↦ is_item_of sort next.1 || has_item_of sort next.0 bytes ]

-- the pattern has a specifier of a date
abbrev pub needs_date : List ℕ → Bool
needs_date bytes = has_item_of OfDate Outside bytes

-- the pattern has a specifier of the time of day
abbrev pub needs_time : List ℕ → Bool
needs_time bytes = has_item_of OfTime Outside bytes

-- the pattern has a specifier of the offset from UTC
abbrev pub needs_offset : List ℕ → Bool
needs_offset bytes = has_item_of OfOffset Outside bytes

-- each text of the pattern gives a fraction of a second
abbrev pub has_fraction : List ℕ → Bool
has_fraction bytes = has_item_of OfFraction Outside bytes
