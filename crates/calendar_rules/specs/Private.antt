-- Words of functions that are not public.
use Rattle.std.specs.Prelude.{◌≡◌, ◌⊎◌, ◌<◌, ℕ, ℤ, List, length, Option, Some, None}
use Rattle.calendar_text.specs.declared.calendar_time.CalendarTime.{CalendarTime}
use Rattle.calendar_rules.specs.RecurrenceFaults.{LackInstants}
use Rattle.calendar_rules.specs.declared.recurrence_error.CalendarRuleError.{CalendarRuleError}
use Rattle.calendar_rules.specs.declared.recurrence_error.CalendarRuleError.TheVariants.{NoInstant, TooManyTimes}

-- a text, if there is one, is shorter than so many bytes
abbrev pub IsShorter : Option (List ℕ) → ℕ → Type 0
IsShorter None len = Unit {0}
IsShorter (Some text) len = length text < len

-- what the error says is wrong with a list of times, of which at most so many have a place, is wrong with it
abbrev pub IsListFault : {Z : Type 0} → (Z → ℤ → ℤ) → Z → List CalendarTime → ℕ → CalendarRuleError → Type 0
IsListFault ahead zone times most error = ((error ≡ NoInstant) × LackInstants ahead zone times) ⊎ ((error ≡ TooManyTimes) × (most < length times))
