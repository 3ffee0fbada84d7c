-- Which date-times fit the parts that a text gives, with their offset from UTC or by the seconds from 1970, and which parts suffice for one.
use Rattle.std.specs.Prelude.{◌+◌, ◌/◌, ◌%◌, Bool, true, false, ◌&&◌, ◌||◌, if◌then◌else◌, ℤ, pos, ◌+ℤ◌, ◌-ℤ◌, Option, Some, None}
use Rattle.std.specs.Ordering.{int_eq}
use Rattle.chrono_datetime.specs.Days.{IsDate}
use Rattle.chrono_datetime.specs.Duration.{nanos_per_second}
use Rattle.chrono_datetime.specs.Moment.{Moment, IsMoment}
use Rattle.chrono_datetime.specs.Time.{TimeOfDay, is_leap, second_of}
use Rattle.chrono_instant.specs.Instants.{epoch_second}
use Rattle.chrono_instant.specs.Offsets.{IsOffset, moment_ahead}
use Rattle.chrono_zoned.specs.Zoned.{Zoned}
use Rattle.chrono_pattern.specs.DateParts.{date_fits, is_present, names_date}
use Rattle.chrono_pattern.specs.TimeParts.{IsClockTime, clock_fits, counts, names_time, time_fits}
use Rattle.chrono_pattern.specs.declared.parsed.Parsed.{Parsed}

-- a date-time that a clock shows: of a date, at a time of day that it shows
abbrev pub IsClockMoment : Moment → Type 0
IsClockMoment m = IsDate m.date × IsClockTime m.time

-- a date-time with its offset of which a clock shows the local one, and UTC has a date
abbrev pub IsClockZoned : Zoned ℤ → Type 0
IsClockZoned d = IsMoment d.utc × IsOffset d.zone × IsClockMoment (moment_ahead d.utc d.zone)

-- the second that a clock shows is this one, and no leap second if none is given
abbrev pub shows_second : Option ℤ → TimeOfDay → Bool
shows_second None t = if is_leap t then false else true
shows_second (Some v) t = int_eq v (pos (second_of t + t.fraction / nanos_per_second))

-- the second that is given is that of a leap second
abbrev pub names_leap : Option ℤ → Bool
names_leap None = false
names_leap (Some v) = int_eq v (pos 60)

-- The parts of the time of day fit a time in a known second. A fraction that is not given is 0.
unfoldable pub stamped_time_fits : Parsed → TimeOfDay → Bool
stamped_time_fits p t =
    clock_fits p t && (shows_second p.second t && counts p.nanosecond (pos (t.fraction % nanos_per_second)))

-- the second is this one or the next
abbrev pub is_next_to : ℤ → ℤ → Bool
is_next_to s second = int_eq s second || int_eq s (second +ℤ pos 1)

-- The seconds from 1970 are those of the date-time. A leap second has those of the second before it, or of the one behind it.
abbrev pub is_stamp_of : ℤ → Moment → ℤ → Bool
is_stamp_of s m x = if is_leap m.time then is_next_to s (epoch_second m -ℤ x) else int_eq s (epoch_second m -ℤ x)

-- what the seconds from 1970 say of the date and the time of day, or else the parts by themselves
abbrev pub fits_by : Option ℤ → Parsed → Moment → ℤ → Bool
fits_by None p m x = time_fits p m.time
fits_by (Some s) p m x = stamped_time_fits p m.time && is_stamp_of s m x

-- the local date-time fits all parts that are given, where the clock is x seconds ahead of UTC
unfoldable pub moment_fits : Parsed → Moment → ℤ → Bool
moment_fits p m x = date_fits p m.date && fits_by p.timestamp p m x

-- the parts suffice for a date-time: the seconds from 1970, or a date and a time of day
unfoldable pub names_moment : Parsed → Bool
names_moment p = if is_present p.timestamp then true else names_date p && names_time p

-- the local date-time and its offset fit all parts that are given; the seconds from 1970 alone are of UTC
unfoldable pub zoned_fits : Parsed → Moment → ℤ → Bool
zoned_fits p m x = counts p.offset x && moment_fits p m x

-- the parts suffice for a date-time with its offset: the seconds from 1970, or a date, a time of day and an offset
unfoldable pub names_zoned : Parsed → Bool
names_zoned p = if is_present p.timestamp then true else names_moment p && is_present p.offset
