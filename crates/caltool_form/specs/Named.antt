-- What the numbers of a command name: a date, a time of day, a date-time, a duration, a number of months.
use Rattle.std.specs.Prelude.{◌==◌, ◌*◌, nat_lt, ◌&&◌, ◌||◌, if◌then◌else◌, ℤ, pos, neg_ℤ, Option, Some, None}
use Rattle.std.specs.Option.{option_map, option_and_then}
use Rattle.chrono_clock.specs.Duration.{nanos_per_second}
use Rattle.chrono_clock.specs.Time.{TimeOfDay, time_at}
use Rattle.chrono_clock.specs.Moment.{Moment, moment, reach_by}
use Rattle.chrono_calendar.specs.Days.{date_of_day, date_of_ymd}
use Rattle.caltool_command.specs.declared.arguments.CalendarDate.{CalendarDate}
use Rattle.caltool_command.specs.declared.arguments.ClockTime.{ClockTime}
use Rattle.caltool_command.specs.declared.arguments.DateAndTime.{DateAndTime}
use Rattle.caltool_command.specs.declared.arguments.MonthSpan.{MonthSpan}
use Rattle.caltool_command.specs.declared.arguments.MonthSpan.TheVariants.{Later, Earlier}
unfoldable pub use Rattle.chrono_clock.specs.Duration.{duration_named}

-- the date of a year, a month and a day, if there is one
unfoldable pub date_named : CalendarDate → Option ℤ
date_named d = date_of_ymd d.year d.month d.day

-- the time of an hour, a minute, a second and nanoseconds, if there is one: a leap fraction stands at second 59 alone
unfoldable pub time_named : ClockTime → Option TimeOfDay
time_named t =
    if (nat_lt t.hour 24 && nat_lt t.minute 60 && nat_lt t.second 60)
    && (nat_lt t.nanosecond (2 * nanos_per_second) && (nat_lt t.nanosecond nanos_per_second || (t.second == 59)))
    then Some (time_at t.hour t.minute t.second t.nanosecond) else None

-- the date-time of both, if both exist
unfoldable pub moment_named : DateAndTime → Option Moment
moment_named m = option_and_then (λ n. option_map (moment n) (time_named m.time)) (date_named m.date)

-- a number of months, below 0 if they go back
abbrev pub months_of : MonthSpan → ℤ
months_of (Later n) = pos n
months_of (Earlier n) = neg_ℤ (pos n)

-- the date-time x nanoseconds on, if its day is a date
unfoldable pub reach_named : Moment → ℤ → Option Moment
reach_named m x = reach_by date_of_day m x
