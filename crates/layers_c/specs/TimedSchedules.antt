-- Schedules with seconds and years by their texts and the numbers of dialects.
use Rattle.std.specs.Prelude.{◌≡◌, ℕ, ◌==◌, if◌then◌else◌, List, [], ◌∷◌, slice_get, Option, Some, IfSome, IfNone, IsSomeAnd, IsTrue}
use Rattle.std.specs.Option.{option_map}
use Rattle.chrono_cron.specs.declared.text.schedule_error.ScheduleError.{ScheduleError}
use Rattle.chrono_datetime.specs.Moment.{IsBefore, Moment}
use Rattle.timed_cron.specs.DueSeconds.{NoSecondAfter, NoSecondBefore, NoSecondBetween, is_timed_due}
use Rattle.timed_cron.specs.TimedErrors.{timed_error_text}
use Rattle.timed_cron.specs.TimedTexts.{IsTimedText}
use Rattle.timed_cron.specs.declared.dialect.Dialect.{Dialect}
use Rattle.timed_cron.specs.declared.dialect.Dialect.TheVariants.{Crontab, Seconds, Quartz, Robfig}
use Rattle.timed_cron.specs.declared.timed_error.TimedError.{TimedError}
use Rattle.timed_cron.specs.declared.timed_error.TimedError.TheVariants.{Seconds as InSeconds, Fields as InFields, QuestionMarks, Years as InYears}
use Rattle.timed_cron.specs.declared.timed_schedule.TimedSchedule.{TimedSchedule}
use Rattle.layers_c.specs.Faults.{numbered}
use Rattle.layers_c.specs.Schedules.{schedule_error_from_c, schedule_faults}
use Rattle.layers_c.specs.declared.faults.CalendarFault.{CalendarFault}

-- the dialects, numbered from 0
abbrev pub dialect_numbered : ℕ → Option Dialect
dialect_numbered n = slice_get (Crontab ∷ Seconds ∷ Quartz ∷ Robfig ∷ []) n

-- the text writes the schedule in the dialect with a number
abbrev pub WritesTimed : ℕ → List ℕ → TimedSchedule → Type 0
WritesTimed dialect text t = IsSomeAnd (dialect_numbered dialect) (λ d. IsTimedText d text t)

-- what is found after a moment: the first at which the schedule is due, and none if there is none
pub record IsNextSecond (t : TimedSchedule) (start : Moment) (found : Option Moment) : Type 0 where
  pub member : IfSome found (λ m. IsTrue (is_timed_due t m))
  pub later : IfSome found (λ m. IsBefore start m)
  pub least : IfSome found (λ m. NoSecondBetween t start m)
  pub none : IfNone found (NoSecondAfter t start)

-- what is found before a moment: the last at which the schedule is due, and none if there is none
pub record IsLastSecond (t : TimedSchedule) (start : Moment) (found : Option Moment) : Type 0 where
  pub member : IfSome found (λ m. IsTrue (is_timed_due t m))
  pub earlier : IfSome found (λ m. IsBefore m start)
  pub greatest : IfSome found (λ m. NoSecondBetween t m start)
  pub none : IfNone found (NoSecondBefore t start)

-- A fault is the error of a text. The field of seconds has the number 6, and that of years 7. The error of `?` has the number 15, at the weekday
abbrev pub IsTimedFault : TimedError → CalendarFault → Type 0
IsTimedFault (InSeconds e) a = (numbered schedule_faults a.code ≡ Some e.fault) × (a.field ≡ 6) × (a.byte ≡ e.byte)
IsTimedFault (InFields e) a = schedule_error_from_c a ≡ Some e
IsTimedFault (QuestionMarks byte) a = (a.code ≡ 15) × (a.field ≡ 5) × (a.byte ≡ byte)
IsTimedFault (InYears e) a = (numbered schedule_faults a.code ≡ Some e.fault) × (a.field ≡ 7) × (a.byte ≡ e.byte)

-- the error of a schedule in the field with a number
abbrev pub error_in_field : ℕ → ScheduleError → TimedError
error_in_field field e = if field == 6 then InSeconds e else (if field == 7 then InYears e else InFields e)

-- what is wrong, by the numbers of a fault
abbrev pub timed_error_from_c : CalendarFault → Option TimedError
timed_error_from_c a = if a.code == 15 then Some (QuestionMarks a.byte) else option_map (error_in_field a.field) (schedule_error_from_c a)

-- what a fault says, if there is such a fault
abbrev pub timed_line_from_c : CalendarFault → Option (List ℕ)
timed_line_from_c a = option_map timed_error_text (timed_error_from_c a)
