-- Date-times, times of day and durations by the two numbers that stand for them in C.
use Rattle.std.specs.Prelude.{ℕ, ◌-◌, ◌*◌, ◌^◌, ◌%◌, ◌==◌, ◌&&◌, ◌||◌, Bool, not, nat_le, nat_lt, if◌then◌else◌, ℤ, pos, ◌+ℤ◌, ◌-ℤ◌, ◌*ℤ◌, unsigned_abs, Option, Some, None}
use Rattle.std.specs.Int.{int_div_euclid, int_rem_euclid}
use Rattle.std.specs.Ordering.{int_eq}
use Rattle.chrono_clock.specs.Duration.{longest, nanos_per_second, duration_named as duration_of_parts, floor_secs, past_floor, two_step_quotient}
use Rattle.chrono_clock.specs.Time.{TimeOfDay, seconds_per_day}
use Rattle.chrono_datetime.specs.Days.{date_of_day}
use Rattle.chrono_datetime.specs.Fields.{unix_epoch_day}
use Rattle.chrono_datetime.specs.Moment.{Moment, moment_on}
use Rattle.numbers_c.specs.declared.date_time_numbers.CalendarDateTime.{CalendarDateTime}
use Rattle.numbers_c.specs.declared.date_time_numbers.CalendarDuration.{CalendarDuration}
use Rattle.numbers_c.specs.declared.time_numbers.CalendarTimeOfDay.{CalendarTimeOfDay}

-- a second of the day, and nanoseconds past it: a second and more of them lie in the leap second after the last of a minute
abbrev pub is_time_named : ℕ → ℕ → Bool
is_time_named second nanos =
    nat_lt second seconds_per_day && (nat_lt nanos nanos_per_second || (nat_lt nanos (2 * nanos_per_second) && (second % 60 == 59)))

-- the date-time at a second of a day and so many nanoseconds past it, if there is one
unfoldable pub moment_at : ℤ → ℕ → ℕ → Option Moment
moment_at day second nanos =
    if is_time_named second nanos then moment_on (date_of_day day) (record { second = second; fraction = nanos }) else None

-- the day at so many seconds since 1970
abbrev pub day_of_seconds : ℤ → ℤ
day_of_seconds s = int_div_euclid s (pos seconds_per_day) +ℤ unix_epoch_day

-- the second of the day at so many seconds since 1970
abbrev pub second_of_seconds : ℤ → ℕ
second_of_seconds s = unsigned_abs (int_rem_euclid s (pos seconds_per_day))

-- the date-time of so many seconds since 1970 and nanoseconds past them, if there is one
unfoldable pub moment_from_c : CalendarDateTime → Option Moment
moment_from_c a = moment_at (day_of_seconds a.seconds) (second_of_seconds a.seconds) a.nanos

-- the two numbers of a date-time
abbrev pub numbers_for_c : Moment → CalendarDateTime
numbers_for_c m = record {
  seconds = (m.date -ℤ unix_epoch_day) *ℤ pos seconds_per_day +ℤ pos m.time.second;
  nanos = m.time.fraction;
}

-- those that stand for a date-time, if there is one
abbrev pub numbers_or_none : Option Moment → CalendarDateTime
numbers_or_none (Some m) = numbers_for_c m
numbers_or_none None = record { seconds = pos 0; nanos = 2 ^ 32 - 1 }

-- the time of day of a second of the day and nanoseconds past it, if there is one
unfoldable pub time_from_c : CalendarTimeOfDay → Option TimeOfDay
time_from_c a = if is_time_named a.second a.nanos then Some (record { second = a.second; fraction = a.nanos }) else None

-- the two numbers of a time of day
abbrev pub time_for_c : TimeOfDay → CalendarTimeOfDay
time_for_c t = record { second = t.second; nanos = t.fraction }

-- those that stand for a time of day, if there is one
abbrev pub time_or_none : Option TimeOfDay → CalendarTimeOfDay
time_or_none (Some t) = time_for_c t
time_or_none None = record { second = 0; nanos = 2 ^ 32 - 1 }

-- the duration of so many seconds and nanoseconds past them, if there is one
unfoldable pub duration_from_c : CalendarDuration → Option ℤ
duration_from_c a = duration_of_parts a.seconds a.nanos

-- the two numbers of a duration
abbrev pub duration_for_c : ℤ → CalendarDuration
duration_for_c x = record { seconds = floor_secs x; nanos = past_floor x }

-- those that stand for a duration, if there is one
abbrev pub duration_or_none : Option ℤ → CalendarDuration
duration_or_none (Some x) = duration_for_c x
duration_or_none None = record { seconds = pos 0; nanos = 2 ^ 32 - 1 }

-- so many nanoseconds, if a duration may have them
abbrev pub duration_within : ℤ → Option ℤ
duration_within x = if nat_le (unsigned_abs x) longest then Some x else None

-- the duration x divided by n, if n is not 0
abbrev pub duration_divided : ℤ → ℤ → Option ℤ
duration_divided x n = if not (int_eq n (pos 0)) then Some (two_step_quotient x n) else None
