-- What is wrong with a text that is no rule over date-times, as an error says it. `HasTimedRuleFault` says which texts have which fault.
use Rattle.std.specs.Prelude.{◌≡◌, ℕ, false, List, Some, None, codes}
use Rattle.chrono_sets.specs.FiniteSets.{no_numbers}
use Rattle.chrono_rules.specs.RuleTexts.{IsRuleText, rule_body, said, values_in}
use Rattle.chrono_rules.specs.declared.rule.Rule.{Rule}
use Rattle.zoned_rules.specs.LocalTimes.{lacks_times}
use Rattle.zoned_rules.specs.declared.clock_steps.ClockUnit.{ClockUnit}
use Rattle.zoned_rules.specs.declared.day_times.DayTimes.{DayTimes}
use Rattle.calendar_rules.specs.TimedRuleTexts.{bound_of, clock_part_key, fits_clock, number_list_of, text_of_days, unit_of}
use Rattle.calendar_rules.specs.declared.clock_part.ClockPart.{ClockPart}
use Rattle.calendar_rules.specs.declared.clock_part.ClockPart.TheVariants.{ByHour, ByMinute, BySecond}
use Rattle.calendar_rules.specs.declared.timed_error.TimedRuleError.{TimedRuleError}
use Rattle.calendar_rules.specs.declared.timed_error.TimedRuleError.TheVariants.{Frequency, Part, Days, Until, NotTogether}

-- FREQ is not there once
abbrev pub LacksFrequency : List ℕ → Type 0
LacksFrequency text = said (λ word. Some (unit_of word)) None (values_in text (codes "FREQ=")) ≡ None

-- a part of times is there twice, or what it lists are not all numbers that it can have
abbrev pub HasNoNumbers : List ℕ → ClockPart → Type 0
HasNoNumbers text part = said (number_list_of part) (Some no_numbers) (values_in text (clock_part_key part)) ≡ None

-- the parts of days write a rule, but UNTIL is there twice, or beside COUNT, or it is no date-time in UTC
pub record HasNoBound (text : List ℕ) : Type 0 where
  pub others : Rule
  pub written : IsRuleText (rule_body (text_of_days text)) others
  pub bound : bound_of others.end (values_in text (codes "UNTIL=")) ≡ None

-- each part can be read, but they do not go together
pub record AreNotTogether (text : List ℕ) : Type 0 where
  pub unit : ClockUnit
  pub frequency : said (λ word. Some (unit_of word)) None (values_in text (codes "FREQ=")) ≡ Some unit
  pub times : DayTimes
  pub hours : said (number_list_of ByHour) (Some no_numbers) (values_in text (clock_part_key ByHour)) ≡ Some times.hours
  pub minutes : said (number_list_of ByMinute) (Some no_numbers) (values_in text (clock_part_key ByMinute)) ≡ Some times.minutes
  pub seconds : said (number_list_of BySecond) (Some no_numbers) (values_in text (clock_part_key BySecond)) ≡ Some times.seconds
  pub others : Rule
  pub written : IsRuleText (rule_body (text_of_days text)) others
  pub fitting : fits_clock unit others (lacks_times times) ≡ false

-- what the error says is wrong with the text is wrong with it
abbrev pub HasTimedRuleFault : List ℕ → TimedRuleError → Type 0
HasTimedRuleFault text Frequency = LacksFrequency text
HasTimedRuleFault text (Part part) = HasNoNumbers text part
HasTimedRuleFault text (Days error) = (r : Rule) → ¬ IsRuleText (rule_body (text_of_days text)) r
HasTimedRuleFault text Until = HasNoBound text
HasTimedRuleFault text NotTogether = AreNotTogether text
