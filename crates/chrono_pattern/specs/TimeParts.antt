-- Which times of day fit the parts that a text gives, and which parts suffice for one.
use Rattle.std.specs.Prelude.{ℕ, ◌+◌, ◌/◌, ◌%◌, Bool, true, false, ◌&&◌, if◌then◌else◌, ℤ, pos, Option, Some, None, unsigned_abs}
use Rattle.std.specs.Ordering.{int_eq}
use Rattle.chrono_datetime.specs.Duration.{nanos_per_second}
use Rattle.chrono_datetime.specs.Time.{FractionFits, IsTime, TimeOfDay, hour_of, minute_of, second_of}
use Rattle.chrono_pattern.specs.DateParts.{is_present, says}
use Rattle.chrono_pattern.specs.declared.parsed.Parsed.{Parsed}

-- the part is this value, and 0 if it is not given
abbrev pub counts : Option ℤ → ℤ → Bool
counts None v = int_eq (pos 0) v
counts (Some w) v = int_eq w v

-- the hour and the minute fit
unfoldable pub clock_fits : Parsed → TimeOfDay → Bool
clock_fits p t =
    (says p.hour_div_12 (pos (hour_of t / 12)) && says p.hour_mod_12 (pos (hour_of t % 12)))
    && says p.minute (pos (minute_of t))

-- The second and its fraction fit. A second that is not given is 0, and so is a fraction. A leap second is second 60.
unfoldable pub second_fits : Parsed → TimeOfDay → Bool
second_fits p t =
    counts p.second (pos (second_of t + t.fraction / nanos_per_second))
    && counts p.nanosecond (pos (t.fraction % nanos_per_second))

-- the time fits all parts that are given
unfoldable pub time_fits : Parsed → TimeOfDay → Bool
time_fits p t = clock_fits p t && second_fits p t

-- a time of day that a clock shows: a leap second is one behind second 59
pub record IsClockTime (t : TimeOfDay) : Type 0 where
  pub time : IsTime t
  pub leap : FractionFits (second_of t) t.fraction

-- a fraction stands behind a second
abbrev pub names_second : Parsed → Bool
names_second p = if is_present p.second then true else if is_present p.nanosecond then false else true

-- the parts suffice for a time of day: its half day, its hour there and its minute
unfoldable pub names_time : Parsed → Bool
names_time p = (is_present p.hour_div_12 && is_present p.hour_mod_12) && (is_present p.minute && names_second p)

-- the size of the part, and 0 if it is not given
abbrev pub size_or_zero : Option ℤ → ℕ
size_or_zero None = 0
size_or_zero (Some v) = unsigned_abs v
