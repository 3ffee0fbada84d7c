-- Why the text of a calendar means no recurrence in a zone, as an error says it. `IsRecurrenceFault` says which texts have which fault.
use Rattle.std.specs.Prelude.{◌≡◌, ◌⊎◌, ◌<◌, ℕ, ℤ, List, length, Option, Some}
use Rattle.chrono_datetime.specs.Moment.{Moment}
use Rattle.chrono_zoned.specs.Zoned.{Zoned}
use Rattle.calendar_text.specs.CalendarTexts.{CalendarParts}
use Rattle.calendar_text.specs.declared.calendar_time.CalendarTime.{CalendarTime}
use Rattle.calendar_text.specs.declared.calendar_time.CalendarTime.TheVariants.{Local}
use Rattle.calendar_rules.specs.Recurrences.{AreInstantsOf}
use Rattle.calendar_rules.specs.TimedRuleFaults.{HasTimedRuleFault}
use Rattle.calendar_rules.specs.declared.recurrence_error.CalendarRuleError.{CalendarRuleError}
use Rattle.calendar_rules.specs.declared.recurrence_error.CalendarRuleError.TheVariants.{NotLocal, Rule as OfRule, NoInstant, TooManyTimes}
use Rattle.calendar_rules.specs.declared.timed_error.TimedRuleError.{TimedRuleError}

-- the rule of the text has a fault
abbrev pub HasRuleFault : Option (List ℕ) → TimedRuleError → Type 0
HasRuleFault rule error = (text : List ℕ) × (rule ≡ Some text) × HasTimedRuleFault text error

module _ {Z : Type 0} (ahead : Z → ℤ → ℤ) (zone : Z) where
  -- one of the times has no instant: no instants are those of all of them
  abbrev pub LackInstants : List CalendarTime → Type 0
  LackInstants times = (ds : List (Zoned Z)) → ¬ AreInstantsOf ahead zone times ds

  -- what the error says is wrong with the text of a calendar is wrong with it, where the lists may have so many times at most
  abbrev pub IsRecurrenceFault : CalendarParts → ℕ → ℕ → CalendarRuleError → Type 0
  IsRecurrenceFault c most_dates most_exceptions NotLocal = (m : Moment) → ¬ (c.start ≡ Local m)
  IsRecurrenceFault c most_dates most_exceptions (OfRule error) = HasRuleFault c.rule error
  IsRecurrenceFault c most_dates most_exceptions NoInstant = LackInstants c.dates ⊎ LackInstants c.exceptions
  IsRecurrenceFault c most_dates most_exceptions TooManyTimes = (most_dates < length c.dates) ⊎ (most_exceptions < length c.exceptions)
