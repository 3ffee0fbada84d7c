-- What the text of a calendar means in a zone (RFC 5545, section 3.8.5). `MeansRecurrence` says it, at the end.
--
-- In what follows `ahead zone u` tells how many seconds the clock of a zone is ahead of UTC at the second u.
use Rattle.std.specs.Prelude.{◌≡◌, ◌⊎◌, ◌<◌, ℕ, ℤ, List, [], ◌∷◌, length, Option, Some, None}
use Rattle.chrono_datetime.specs.Moment.{Moment}
use Rattle.chrono_instant.specs.Instants.{epoch_second}
use Rattle.chrono_zoned.specs.Zoned.{Zoned}
use Rattle.chrono_rules.specs.RuleParts.{plain}
use Rattle.chrono_rules.specs.declared.rule.Frequency.TheVariants.{Daily}
use Rattle.zoned_rules.specs.LocalInstants.{HasDates, IsInstantOf}
use Rattle.zoned_rules.specs.LocalTimes.{each_day, times_of_start, without_end}
use Rattle.zoned_rules.specs.declared.bound.Bound.TheVariants.{Count}
use Rattle.zoned_rules.specs.declared.zoned_recurrence.ZonedRecurrence.{ZonedRecurrence}
use Rattle.calendar_text.specs.CalendarTexts.{CalendarParts}
use Rattle.calendar_text.specs.declared.calendar_time.CalendarTime.{CalendarTime}
use Rattle.calendar_text.specs.declared.calendar_time.CalendarTime.TheVariants.{Date, Local, Utc}
use Rattle.calendar_rules.specs.TimedRuleTexts.{IsTimedRuleText}
use Rattle.calendar_rules.specs.declared.timed_rule.TimedRule.{TimedRule}

-- a calendar without RRULE has the start alone: "The DTSTART property value SHOULD match the pattern of the recurrence rule, if specified", and
-- it "defines the first instance in the recurrence set" (3.8.5.3)
abbrev pub start_alone : TimedRule
start_alone = record { steps = each_day; days = plain Daily; times = times_of_start; bound = Count 1 }

-- the rule of the text, if there is one
abbrev pub IsRuleOf : Option (List ℕ) → TimedRule → Type 0
IsRuleOf None r = r ≡ start_alone
IsRuleOf (Some text) r = IsTimedRuleText text r

module _ {Z : Type 0} (ahead : Z → ℤ → ℤ) (zone : Z) where
  -- the date-time d of the zone is the instant of a time of the text: a local time stands for one, and a date for none. UTC and the clock have a
  -- date there
  abbrev pub IsInstantOfTime : CalendarTime → Zoned Z → Type 0
  IsInstantOfTime (Date day) d = ⊥
  IsInstantOfTime (Local m) d = (d.zone ≡ zone) × IsInstantOf (ahead zone) (epoch_second m) (epoch_second d.utc) × HasDates (ahead zone) (epoch_second d.utc)
  IsInstantOfTime (Utc m) d = (d.zone ≡ zone) × (d.utc ≡ m) × HasDates (ahead zone) (epoch_second d.utc)

  -- one after another
  abbrev pub AreInstantsOf : List CalendarTime → List (Zoned Z) → Type 0
  AreInstantsOf [] [] = Unit {0}
  AreInstantsOf [] (d ∷ ds) = ⊥
  AreInstantsOf (t ∷ ts) [] = ⊥
  AreInstantsOf (t ∷ ts) (d ∷ ds) = IsInstantOfTime t d × AreInstantsOf ts ds

  -- the recurrence has the rule of the text from its local start on, and the instants of RDATE and EXDATE
  pub record MeansRecurrence (c : CalendarParts) (s : ZonedRecurrence Z) : Type 0 where
    pub start : Moment
    pub begins : c.start ≡ Local start
    pub rule : TimedRule
    pub written : IsRuleOf c.rule rule
    -- COUNT and UNTIL are the bound, and not parts of the days
    pub days : s.rule.local.days ≡ without_end rule.days
    pub times : s.rule.local.times ≡ rule.times
    pub from : s.rule.local.start ≡ start
    pub steps : s.rule.local.steps ≡ rule.steps
    pub bound : s.rule.bound ≡ rule.bound
    pub in_zone : s.rule.zone ≡ zone
    pub dates : AreInstantsOf c.dates s.dates.now
    pub exceptions : AreInstantsOf c.exceptions s.exceptions.now

  -- the calendar means no recurrence whose lists have at most so many times
  abbrev pub MeansNoneWithin : CalendarParts → ℕ → ℕ → Type 0
  MeansNoneWithin c most_dates most_exceptions =
      (s : ZonedRecurrence Z) → MeansRecurrence c s → (most_dates < length s.dates.now) ⊎ (most_exceptions < length s.exceptions.now)
