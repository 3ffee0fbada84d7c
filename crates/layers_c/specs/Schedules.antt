-- Schedules by the numbers that stand for them in C.
use Rattle.std.specs.Prelude.{ℕ, ◌==◌, Bool, false, List, [], ◌∷◌, map, take, take_while, Option, Some, None, IfSome, IfNone, IsTrue}
use Rattle.std.specs.Int.{bit_at}
use Rattle.std.specs.Option.{option_map}
use Rattle.std.specs.Ordering.{is_le}
use Rattle.chrono_datetime.specs.Moment.{Moment, IsBefore, moment_cmp}
use Rattle.chrono_cron.specs.Due.{NotDueAfter, NotDueBefore, NotDueBetween, is_due}
use Rattle.chrono_cron.specs.ErrorTexts.{schedule_error_text}
use Rattle.chrono_cron.specs.DueMoments.{dues_after}
use Rattle.chrono_cron.specs.declared.field_sets.FieldSets.{FieldSets}
use Rattle.numbers_c.specs.DateTimes.{numbers_for_c}
use Rattle.numbers_c.specs.declared.date_time_numbers.CalendarDateTime.{CalendarDateTime}
use Rattle.layers_c.specs.Faults.{numbered}
use Rattle.layers_c.specs.NumberSets.{set_of_digits}
use Rattle.chrono_cron.specs.declared.text.schedule_error.ScheduleError.{ScheduleError}
use Rattle.chrono_cron.specs.declared.text.schedule_error.ScheduleFault.{ScheduleFault}
use Rattle.chrono_cron.specs.declared.text.schedule_error.ScheduleFault.TheVariants.{Empty, TooFewFields, TooManyFields, UnknownNickname, Interval, Reboot, TimeZone, UnknownName, LongName, NotANumber, OutOfRange, RangeTurnedRound, StepOfZero, StepOfNumber}
use Rattle.chrono_cron.specs.declared.text.schedule_error.ScheduleField.{ScheduleField}
use Rattle.chrono_cron.specs.declared.text.schedule_error.ScheduleField.TheVariants.{Minute, Hour, Day, Month, Weekday}
use Rattle.layers_c.specs.declared.faults.CalendarFault.{CalendarFault}
use Rattle.layers_c.specs.declared.schedule_numbers.CalendarSchedule.{CalendarSchedule}

-- what the five fields list, by ten numbers
unfoldable pub sets_from_c : CalendarSchedule → FieldSets
sets_from_c a = record {
  minutes = set_of_digits a.minutes;
  hours = set_of_digits a.hours;
  days = set_of_digits a.days;
  months = set_of_digits a.months;
  weekdays = set_of_digits a.weekdays;
  month_days = record {
    from_end = set_of_digits a.days_from_end;
    nearest_workdays = set_of_digits a.nearest_workdays;
    last_workday = bit_at a.marks 1 == 1;
    last_weekdays = set_of_digits a.last_weekdays;
    nth_weekdays = set_of_digits a.nth_weekdays;
  };
  either = bit_at a.marks 0 == 1;
  follows_clock = bit_at a.marks 2 == 1;
}

-- what is found after a moment: the first at which the schedule is due, and none if there is none
pub record IsNextDue (s : FieldSets) (start : Moment) (found : Option Moment) : Type 0 where
  pub member : IfSome found (λ m. IsTrue (is_due s m))
  pub later : IfSome found (λ m. IsBefore start m)
  pub least : IfSome found (λ m. NotDueBetween s start m)
  pub none : IfNone found (NotDueAfter s start)

-- what is found before a moment: the last at which the schedule is due, and none if there is none
pub record IsLastDue (s : FieldSets) (start : Moment) (found : Option Moment) : Type 0 where
  pub member : IfSome found (λ m. IsTrue (is_due s m))
  pub earlier : IfSome found (λ m. IsBefore m start)
  pub greatest : IfSome found (λ m. NotDueBetween s m start)
  pub none : IfNone found (NotDueBefore s start)

-- the schedule is due at a moment, if there is one
abbrev pub is_due_at : FieldSets → Option Moment → Bool
is_due_at s (Some m) = is_due s m
is_due_at s None = false

-- a moment is not after another
abbrev pub is_up_to : Moment → Moment → Bool
is_up_to until m = is_le (moment_cmp m until)

-- the moments after one, up to another, at which the schedule is due
abbrev pub dues_up_to : FieldSets → Moment → Moment → List Moment
dues_up_to s start until = take_while (is_up_to until) (dues_after s start)

-- the numbers of those of them for which there is room; none without two moments
abbrev pub due_numbers : FieldSets → Option Moment → Option Moment → ℕ → List CalendarDateTime
due_numbers s (Some start) (Some until) room = take room (map numbers_for_c (dues_up_to s start until))
due_numbers s (Some start) None room = []
due_numbers s None until room = []

-- what can be wrong, numbered from 1
abbrev pub schedule_faults : List ScheduleFault
schedule_faults =
    Empty ∷ TooFewFields ∷ TooManyFields ∷ UnknownNickname ∷ Interval ∷ Reboot ∷ TimeZone ∷ UnknownName ∷ LongName ∷ NotANumber ∷ OutOfRange
    ∷ RangeTurnedRound ∷ StepOfZero ∷ StepOfNumber ∷ []

-- the fields, numbered from 1
abbrev pub schedule_fields : List ScheduleField
schedule_fields = Minute ∷ Hour ∷ Day ∷ Month ∷ Weekday ∷ []

-- what is wrong by its number, in the field of another, at a byte
abbrev pub error_numbered : ℕ → ℕ → ℕ → Option ScheduleError
error_numbered code field byte =
    option_map (λ fault. record { field = numbered schedule_fields field; byte = byte; fault = fault }) (numbered schedule_faults code)

-- what is wrong, by the numbers of a fault
unfoldable pub schedule_error_from_c : CalendarFault → Option ScheduleError
schedule_error_from_c a = error_numbered a.code a.field a.byte

-- what a fault says, if there is such a fault
abbrev pub schedule_line_from_c : CalendarFault → Option (List ℕ)
schedule_line_from_c a = option_map schedule_error_text (schedule_error_from_c a)
