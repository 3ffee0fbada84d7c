-- Recurrence rules by the numbers of C.
use Rattle.std.specs.Prelude.{ℕ, List, [], ◌∷◌, take, take_while, Option, IfSome, IfNone, IsTrue, ℤ, ◌<ℤ◌, int_le}
use Rattle.std.specs.Option.{option_map}
use Rattle.chrono_datetime.specs.PassedOver.{NoneAfter, NoneBefore, PassedBetween}
use Rattle.chrono_rules.specs.InstanceLists.{instances_from}
use Rattle.chrono_rules.specs.Instances.{is_instance}
use Rattle.chrono_rules.specs.RuleErrors.{rule_error_text}
use Rattle.chrono_rules.specs.RuleTexts.{IsRuleText, rule_body}
use Rattle.chrono_rules.specs.declared.rule.Frequency.TheVariants.{Daily, Weekly, Monthly, Yearly}
use Rattle.chrono_rules.specs.declared.rule.Rule.{Rule}
use Rattle.chrono_rules.specs.declared.text.rule_error.RuleError.{RuleError}
use Rattle.chrono_rules.specs.declared.text.rule_error.RuleFault.{RuleFault}
use Rattle.chrono_rules.specs.declared.text.rule_error.RuleFault.TheVariants.{Unknown, OfHours, OfMinutes, OfSeconds, Extension, OfCalendars, OfSkips, Blank, Missing, Twice, Empty, NotAFrequency, NotANumber, Range, OutOfRange, NotADate, WithTime, NotAWeekday, BesideCount, NotWith, NumbersNotWith, NumbersBesideWeeks, Alone}
use Rattle.chrono_rules.specs.declared.text.rule_error.RulePart.{RulePart}
use Rattle.chrono_rules.specs.declared.text.rule_error.RulePart.TheVariants.{Freq, Interval, Count, Until, ByMonth, ByMonthDay, ByDay, ByYearDay, ByWeekNo, BySetPos, Wkst}
use Rattle.layers_c.specs.Faults.{numbered}
use Rattle.layers_c.specs.declared.faults.CalendarFault.{CalendarFault}

-- the text writes the rule
abbrev pub WritesRule : List ℕ → Rule → Type 0
WritesRule text r = IsRuleText (rule_body text) r

-- what is found after a day: the first instance, and none if there is none
pub record IsNextInstance (r : Rule) (start day : ℤ) (found : Option ℤ) : Type 0 where
  pub member : IfSome found (λ e. IsTrue (is_instance r start e))
  pub later : IfSome found (λ e. day <ℤ e)
  pub least : IfSome found (λ e. PassedBetween (is_instance r start) day e)
  pub none : IfNone found (NoneAfter (is_instance r start) day)

-- what is found before a day: the last instance, and none if there is none
pub record IsLastInstance (r : Rule) (start day : ℤ) (found : Option ℤ) : Type 0 where
  pub member : IfSome found (λ e. IsTrue (is_instance r start e))
  pub earlier : IfSome found (λ e. e <ℤ day)
  pub greatest : IfSome found (λ e. PassedBetween (is_instance r start) e day)
  pub none : IfNone found (NoneBefore (is_instance r start) day)

-- the instances from a day on, up to another, for which there is room
abbrev pub instances_up_to : Rule → ℤ → ℤ → ℤ → ℕ → List ℤ
instances_up_to r start from until room = take room (take_while (λ n. int_le n until) (instances_from r start from))

-- what can be wrong, numbered from 1. A fault that names a frequency has a number for each of the four
abbrev pub rule_faults : List RuleFault
rule_faults =
    Unknown ∷ OfHours ∷ OfMinutes ∷ OfSeconds ∷ Extension ∷ OfCalendars ∷ OfSkips ∷ Blank ∷ Missing ∷ Twice ∷ Empty ∷ NotAFrequency ∷ NotANumber
    ∷ Range ∷ OutOfRange ∷ NotADate ∷ WithTime ∷ NotAWeekday ∷ BesideCount ∷ NumbersBesideWeeks ∷ Alone
    ∷ NotWith Daily ∷ NotWith Weekly ∷ NotWith Monthly ∷ NotWith Yearly
    ∷ NumbersNotWith Daily ∷ NumbersNotWith Weekly ∷ NumbersNotWith Monthly ∷ NumbersNotWith Yearly ∷ []

-- the parts, numbered from 1
abbrev pub rule_parts : List RulePart
rule_parts = Freq ∷ Interval ∷ Count ∷ Until ∷ ByMonth ∷ ByMonthDay ∷ ByDay ∷ ByYearDay ∷ ByWeekNo ∷ BySetPos ∷ Wkst ∷ []

-- what is wrong by its number, in the part with another, at a byte
abbrev pub rule_error_numbered : ℕ → ℕ → ℕ → Option RuleError
rule_error_numbered code field byte =
    option_map (λ fault. record { part = numbered rule_parts field; byte = byte; fault = fault }) (numbered rule_faults code)

-- what is wrong, by the numbers of a fault
unfoldable pub rule_error_from_c : CalendarFault → Option RuleError
rule_error_from_c a = rule_error_numbered a.code a.field a.byte

-- what a fault says, if there is such a fault
abbrev pub rule_line_from_c : CalendarFault → Option (List ℕ)
rule_line_from_c a = option_map rule_error_text (rule_error_from_c a)
