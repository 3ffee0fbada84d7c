-- When a schedule with seconds is due. `is_timed_due` says it.
use Rattle.std.specs.Prelude.{◌≡◌, ℕ, ◌/◌, ◌%◌, ◌==◌, Bool, false, ◌&&◌}
use Rattle.chrono_datetime.specs.Days.{year_of}
use Rattle.chrono_datetime.specs.Moment.{Moment, moment, IsBefore, IsMoment}
use Rattle.chrono_datetime.specs.Time.{time_at}
use Rattle.chrono_sets.specs.FiniteSets.{has}
use Rattle.chrono_cron.specs.Due.{is_due}
use Rattle.timed_cron.specs.Years.{is_due_year}
use Rattle.timed_cron.specs.declared.timed_schedule.TimedSchedule.{TimedSchedule}

-- the beginning of second k of the minute in which a moment lies
abbrev pub second_in_minute : Moment → ℕ → Moment
second_in_minute m k = moment m.date (time_at 0 (m.time.second / 60) k 0)

-- the schedule is due at the moment: its five fields are due at the beginning of the moment's minute, the moment's second is listed, and the
-- moment is the beginning of that second. Its years are left out here
unfoldable pub is_due_at_second : TimedSchedule → Moment → Bool
is_due_at_second s m = is_due s.schedule.sets (second_in_minute m 0) && (has s.seconds (m.time.second % 60) && m.time.fraction == 0)

-- the same, in one of its years
unfoldable pub is_timed_due : TimedSchedule → Moment → Bool
is_timed_due s m = is_due_at_second s m && is_due_year s.years (year_of m.date)

-- it is due at no moment between two
abbrev pub NoSecondBetween : TimedSchedule → Moment → Moment → Type 0
NoSecondBetween s start end = (m : Moment) → IsMoment m → IsBefore start m → IsBefore m end → is_timed_due s m ≡ false

-- at no moment after one
abbrev pub NoSecondAfter : TimedSchedule → Moment → Type 0
NoSecondAfter s start = (m : Moment) → IsMoment m → IsBefore start m → is_timed_due s m ≡ false

-- and at none before one
abbrev pub NoSecondBefore : TimedSchedule → Moment → Type 0
NoSecondBefore s end = (m : Moment) → IsMoment m → IsBefore m end → is_timed_due s m ≡ false
