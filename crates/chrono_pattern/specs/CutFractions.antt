-- A date-time with as many digits of the fraction of its second as a pattern writes.
use Rattle.std.specs.Prelude.{ℕ, ◌-◌, ◌%◌, ◌^◌, ◌==◌, if◌then◌else◌, max, min, List, [], ◌∷◌, Some, None}
use Rattle.chrono_datetime.specs.Moment.{Moment, moment}
use Rattle.chrono_datetime.specs.Time.{TimeOfDay}
use Rattle.chrono_pattern.specs.PatternSteps.{pattern_step}
use Rattle.chrono_pattern.specs.declared.item.Item.{Item}
use Rattle.chrono_pattern.specs.declared.item.Item.TheVariants.{Empty, Byte, Number, Word, Group, Subsecond, Zoned}
use Rattle.chrono_pattern.specs.declared.item.NumberField.{NumberField}
use Rattle.chrono_pattern.specs.declared.item.NumberField.TheVariants.{Nanosecond}
use Rattle.chrono_pattern.specs.declared.item.State.{State}
use Rattle.chrono_pattern.specs.declared.item.State.TheVariants.{Outside}
use Rattle.chrono_pattern.specs.declared.item.ZonedField.{ZonedField}
use Rattle.chrono_pattern.specs.declared.item.ZonedField.TheVariants.{Iso8601}

-- how many digits of a fraction a number has
abbrev pub places_of_number : NumberField → ℕ
places_of_number Nanosecond = 9
places_of_number _ = 0

abbrev pub places_of_zoned : ZonedField → ℕ
places_of_zoned Iso8601 = 9
places_of_zoned _ = 0

-- how many digits of the fraction of a second an item may write
abbrev pub places_written : Item → ℕ
places_written Empty = 0
places_written (Byte c) = 0
places_written (Number field padding) = places_of_number field
places_written (Word word) = 0
places_written (Group group) = 0
places_written (Subsecond point count) = if count == 0 then 9 else min count 9
places_written (Zoned field) = places_of_zoned field

-- the most of the items of the bytes
unfoldable pub places_from : State → List ℕ → ℕ
places_from s [] = 0
places_from s (c ∷ bytes) = elim (pattern_step s c) [ None ↦ 0 | Some next ↦ max (places_written next.1) (places_from next.0 bytes) ]

-- the time of day with the first digits alone of its fraction
abbrev pub cut_time : ℕ → TimeOfDay → TimeOfDay
cut_time places t = record t { fraction = t.fraction - t.fraction % 10 ^ (9 - places) }

-- the date-time with as many digits as the pattern writes
abbrev pub as_written : List ℕ → Moment → Moment
as_written bytes m = moment m.date (cut_time (places_from Outside bytes) m.time)
