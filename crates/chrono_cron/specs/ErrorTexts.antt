-- The text of an error: the field, the byte, and what is wrong there, in one line.
use Rattle.std.specs.Prelude.{◌≡◌, ℕ, List, [], ◌∷◌, ◌++◌, map, Option, Some, None, codes, refl}
use Rattle.std.specs.Fmt.{decimal}
use Rattle.chrono_cron.specs.declared.text.schedule_error.ScheduleError.{ScheduleError}
use Rattle.chrono_cron.specs.declared.text.schedule_error.ScheduleFault.{ScheduleFault}
use Rattle.chrono_cron.specs.declared.text.schedule_error.ScheduleFault.TheVariants.{Empty, TooFewFields, TooManyFields, UnknownNickname, Interval, Reboot, TimeZone, UnknownName, LongName, NotANumber, OutOfRange, RangeTurnedRound, StepOfZero, StepOfNumber}
use Rattle.chrono_cron.specs.declared.text.schedule_error.ScheduleField.{ScheduleField}
use Rattle.chrono_cron.specs.declared.text.schedule_error.ScheduleField.TheVariants.{Minute, Hour, Day, Month, Weekday}

-- the field, and nothing where none is told
unfoldable pub field_in_front : Option ScheduleField → List ℕ
field_in_front None = []
field_in_front (Some Minute) = codes "minute, "
field_in_front (Some Hour) = codes "hour, "
field_in_front (Some Day) = codes "day of the month, "
field_in_front (Some Month) = codes "month, "
field_in_front (Some Weekday) = codes "weekday, "

-- what is wrong
unfoldable pub schedule_fault_text : ScheduleFault → List ℕ
schedule_fault_text Empty = codes "nothing stands there"
schedule_fault_text TooFewFields = codes "too few fields"
schedule_fault_text TooManyFields = codes "too many fields"
schedule_fault_text UnknownNickname = codes "an unknown nickname"
schedule_fault_text Interval = codes "an interval, which is no schedule"
schedule_fault_text Reboot = codes "the start of a machine, which is no schedule"
schedule_fault_text TimeZone = codes "a time zone, which no schedule has"
schedule_fault_text UnknownName = codes "an unknown name"
schedule_fault_text LongName = codes "a name of more than three letters"
schedule_fault_text NotANumber = codes "no number of one digit or two"
schedule_fault_text OutOfRange = codes "a number that is out of range"
schedule_fault_text RangeTurnedRound = codes "a range whose end is below its beginning"
schedule_fault_text StepOfZero = codes "a step of 0"
schedule_fault_text StepOfNumber = codes "a step behind a number alone"

-- the line of an error: its field, its byte, and what is wrong there
unfoldable pub schedule_error_text : ScheduleError → List ℕ
schedule_error_text e = field_in_front e.field ++ (codes "byte " ++ (decimal e.byte ++ (codes ": " ++ schedule_fault_text e.fault)))

-- known value: the 60 of `5,60 * * * *`
schedule_error_text-sixty : schedule_error_text (record { field = Some Minute; byte = 2; fault = OutOfRange }) ≡ codes "minute, byte " ++ (decimal 2 ++ codes ": a number that is out of range")
unfolding schedule_error_text field_in_front schedule_fault_text
schedule_error_text-sixty = refl

-- each field, and each fault
field_in_front-each : map field_in_front (Some Minute ∷ Some Hour ∷ Some Day ∷ Some Month ∷ Some Weekday ∷ None ∷ [])
    ≡ codes "minute, " ∷ codes "hour, " ∷ codes "day of the month, " ∷ codes "month, " ∷ codes "weekday, " ∷ [] ∷ []
unfolding field_in_front
field_in_front-each = refl

schedule_fault_text-fields : map schedule_fault_text (Empty ∷ TooFewFields ∷ TooManyFields ∷ UnknownNickname ∷ Interval ∷ Reboot ∷ TimeZone ∷ [])
    ≡ codes "nothing stands there" ∷ codes "too few fields" ∷ codes "too many fields" ∷ codes "an unknown nickname"
    ∷ codes "an interval, which is no schedule" ∷ codes "the start of a machine, which is no schedule" ∷ codes "a time zone, which no schedule has" ∷ []
unfolding schedule_fault_text
schedule_fault_text-fields = refl

schedule_fault_text-items : map schedule_fault_text (UnknownName ∷ LongName ∷ NotANumber ∷ OutOfRange ∷ RangeTurnedRound ∷ StepOfZero ∷ StepOfNumber ∷ [])
    ≡ codes "an unknown name" ∷ codes "a name of more than three letters" ∷ codes "no number of one digit or two" ∷ codes "a number that is out of range"
    ∷ codes "a range whose end is below its beginning" ∷ codes "a step of 0" ∷ codes "a step behind a number alone" ∷ []
unfolding schedule_fault_text
schedule_fault_text-items = refl
