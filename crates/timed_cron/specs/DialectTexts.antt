-- What the texts of Quartz and of robfig/cron share: fields with the places at which they begin, and what is wrong with a text.
use Rattle.std.specs.Prelude.{ℕ, ◌+◌, Option, Some, None, Result, Ok, Err}
use Rattle.chrono_cron.specs.ScheduleErrors.{schedule_error_at}
use Rattle.chrono_cron.specs.declared.text.schedule_error.ScheduleFault.{ScheduleFault}
use Rattle.chrono_cron.specs.declared.text.schedule_error.ScheduleFault.TheVariants.{Empty}
use Rattle.chrono_cron.specs.declared.text.schedule_error.ScheduleField.{ScheduleField}
use Rattle.timed_cron.specs.declared.timed_error.TimedError.{TimedError}
use Rattle.timed_cron.specs.declared.timed_error.TimedError.TheVariants.{Fields as InFields}
use Rattle.timed_cron.specs.declared.timed_schedule.TimedSchedule.{TimedSchedule}

-- what is read of a field that begins at a place: its fault is told in the whole text
abbrev pub in_field : {A : Type 0} → ScheduleField → ℕ → Result A (ℕ × ScheduleFault) → Result A TimedError
in_field field place (Ok a) = Ok a
in_field field place (Err e) = Err (InFields (schedule_error_at (Some field) (place + e.0, e.1)))

-- what stands in front in place of a field is told before all others
abbrev pub unless_in_front : Option ScheduleFault → ℕ → Result TimedSchedule TimedError → Result TimedSchedule TimedError
unless_in_front (Some fault) place fields = Err (InFields (schedule_error_at None (place, fault)))
unless_in_front None place fields = fields

-- what is wrong with a text that cannot be read
abbrev pub timed_error_in : Result TimedSchedule TimedError → TimedError
timed_error_in (Ok s) = InFields (schedule_error_at None (0, Empty))
timed_error_in (Err e) = e
