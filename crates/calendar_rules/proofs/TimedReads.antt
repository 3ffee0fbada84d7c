-- What is read is the rule of the text, and no other.
use Rattle.std.proofs.Common.{◌≡◌, ◌⊎◌, inl, inr, true, false, Option, Some, None, IsSome, Ok, Err, IfErr, IfOk, IsErr, List, ℕ, refl, sym, subst, ap, ◌∙◌}
use Rattle.std.specs.Prelude.{Result, codes}
use Rattle.std.proofs.lemmas.Bool.{both_ways}
use Rattle.std.proofs.lemmas.Option.{same_Some}
use Rattle.chrono_sets.specs.FiniteSets.{FiniteSet, no_numbers}
use Rattle.chrono_rules.specs.RuleTexts.{IsRuleText, rule_body, said, values_in}
use Rattle.chrono_rules.specs.declared.rule.Rule.{Rule}
use Rattle.zoned_rules.specs.LocalTimes.{lacks_times}
use Rattle.zoned_rules.specs.declared.bound.Bound.{Bound}
use Rattle.zoned_rules.specs.declared.clock_steps.ClockUnit.{ClockUnit}
use Rattle.zoned_rules.specs.declared.day_times.DayTimes.{DayTimes}
use Rattle.calendar_rules.specs.TimedRuleTexts.{IsTimedRuleText, bound_of, text_of_days, days_by, fits_clock, number_list_of, clock_part_key, steps_by, unit_of}
use Rattle.calendar_rules.specs.declared.clock_part.ClockPart.{ClockPart}
use Rattle.calendar_rules.specs.declared.clock_part.ClockPart.TheVariants.{ByHour, ByMinute, BySecond}
use Rattle.calendar_rules.specs.TimedRuleFaults.{HasTimedRuleFault}
use Rattle.calendar_rules.specs.declared.timed_error.TimedRuleError.{TimedRuleError}
use Rattle.calendar_rules.specs.declared.timed_error.TimedRuleError.TheVariants.{Until, NotTogether}
use Rattle.calendar_rules.specs.declared.timed_rule.TimedRule.{TimedRule}

none_some : {A : Type 0} (o : Option A) (x : A) → o ≡ None → o ≡ Some x → ⊥
none_some {A} o x none some = both_ways false refl (subst (λ (q : Option A). IsSome q) (sym some ∙ none) refl)

-- the numbers of a part, as a text has them
abbrev numbers_in : List ℕ → ClockPart → Option FiniteSet
numbers_in text part = said (number_list_of part) (Some no_numbers) (values_in text (clock_part_key part))

pub no_hours : (text : List ℕ) (o : Option FiniteSet) (r : TimedRule) → o ≡ numbers_in text ByHour → o ≡ None → IsTimedRuleText text r → ⊥
unfolding clock_part_key
no_hours text o r is none h = none_some o r.times.hours none (is ∙ h.hours)

pub no_minutes : (text : List ℕ) (o : Option FiniteSet) (r : TimedRule) → o ≡ numbers_in text ByMinute → o ≡ None → IsTimedRuleText text r → ⊥
unfolding clock_part_key
no_minutes text o r is none h = none_some o r.times.minutes none (is ∙ h.minutes)

pub no_seconds : (text : List ℕ) (o : Option FiniteSet) (r : TimedRule) → o ≡ numbers_in text BySecond → o ≡ None → IsTimedRuleText text r → ⊥
unfolding clock_part_key
no_seconds text o r is none h = none_some o r.times.seconds none (is ∙ h.seconds)

-- what was read of a text before its parts are put together
pub record AreRead (text : List ℕ) (unit : ClockUnit) (times : DayTimes) (others : Rule) : Type 0 where
  pub frequency : said (λ word. Some (unit_of word)) None (values_in text (codes "FREQ=")) ≡ Some unit
  pub hours : numbers_in text ByHour ≡ Some times.hours
  pub minutes : numbers_in text ByMinute ≡ Some times.minutes
  pub seconds : numbers_in text BySecond ≡ Some times.seconds
  pub written : IsRuleText (rule_body (text_of_days text)) others
  pub only : (q : Rule) → IsRuleText (rule_body (text_of_days text)) q → q ≡ others

pub read_ok : (text : List ℕ) (res : Result TimedRule TimedRuleError) (unit : ClockUnit) (times : DayTimes) (others : Rule) → AreRead text unit times others
    → IfOk res (λ r. r.steps ≡ steps_by unit others) → IfOk res (λ r. r.days ≡ days_by unit others) → IfOk res (λ r. r.times ≡ times)
    → IfOk res (λ r. bound_of others.end (values_in text (codes "UNTIL=")) ≡ Some r.bound) → IfOk res (λ r. fits_clock unit others (lacks_times times) ≡ true)
    → IfOk res (λ r. IsTimedRuleText text r)
unfolding clock_part_key
read_ok text (Err e) unit times others a steps days same bound fitting = tt
read_ok text (Ok r) unit times others a steps days same bound fitting = record {
  unit = unit;
  frequency = a.frequency;
  hours = a.hours ∙ ap (λ (t : DayTimes). Some t.hours) (sym same);
  minutes = a.minutes ∙ ap (λ (t : DayTimes). Some t.minutes) (sym same);
  seconds = a.seconds ∙ ap (λ (t : DayTimes). Some t.seconds) (sym same);
  others = others;
  written = a.written;
  days = days;
  steps = steps;
  bound = bound;
  fitting = ap (λ (t : DayTimes). fits_clock unit others (lacks_times t)) same ∙ fitting;
}

same_times : (a b : DayTimes) → a.hours ≡ b.hours → a.minutes ≡ b.minutes → a.seconds ≡ b.seconds → a ≡ b
same_times a b hours minutes seconds =
    ap (λ h. record { hours = h; minutes = a.minutes; seconds = a.seconds }) hours
    ∙ ap (λ m. record { hours = b.hours; minutes = m; seconds = a.seconds }) minutes
    ∙ ap (λ s. record { hours = b.hours; minutes = b.minutes; seconds = s }) seconds

same_rule : (a b : TimedRule) → a.steps ≡ b.steps → a.days ≡ b.days → a.times ≡ b.times → a.bound ≡ b.bound → a ≡ b
same_rule a b steps days times bound =
    ap (λ x. record { steps = x; days = a.days; times = a.times; bound = a.bound }) steps
    ∙ ap (λ x. record { steps = b.steps; days = x; times = a.times; bound = a.bound }) days
    ∙ ap (λ x. record { steps = b.steps; days = b.days; times = x; bound = a.bound }) times
    ∙ ap (λ x. record { steps = b.steps; days = b.days; times = b.times; bound = x }) bound

pub every_ok : (text : List ℕ) (res : Result TimedRule TimedRuleError) (unit : ClockUnit) (times : DayTimes) (others : Rule) → AreRead text unit times others
    → ((b : Bound) → bound_of others.end (values_in text (codes "UNTIL=")) ≡ Some b → fits_clock unit others (lacks_times times) ≡ true
    → res ≡ Ok (record { steps = steps_by unit others; days = days_by unit others; times = times; bound = b }))
    → (r : TimedRule) → IsTimedRuleText text r → res ≡ Ok r
unfolding clock_part_key
every_ok text res unit times others a every r h =
    let u : unit ≡ h.unit = same_Some _ _ (sym a.frequency ∙ h.frequency) in
    let o : h.others ≡ others = a.only h.others h.written in
    let t : times ≡ r.times = same_times times r.times (same_Some _ _ (sym a.hours ∙ h.hours)) (same_Some _ _ (sym a.minutes ∙ h.minutes)) (same_Some _ _ (sym a.seconds ∙ h.seconds)) in
    let steps : steps_by unit others ≡ r.steps = ap (λ (v : ClockUnit). steps_by v others) u ∙ ap (λ (q : Rule). steps_by h.unit q) (sym o) ∙ sym h.steps in
    let days : days_by unit others ≡ r.days = ap (λ (v : ClockUnit). days_by v others) u ∙ ap (λ (q : Rule). days_by h.unit q) (sym o) ∙ sym h.days in
    let bound = ap (λ (q : Rule). bound_of q.end (values_in text (codes "UNTIL="))) (sym o) ∙ h.bound in
    let fitting = ap (λ (v : ClockUnit). fits_clock v others (lacks_times times)) u
    ∙ ap (λ (q : Rule). fits_clock h.unit q (lacks_times times)) (sym o)
    ∙ ap (λ (d : DayTimes). fits_clock h.unit h.others (lacks_times d)) t ∙ h.fitting in
    every r.bound bound fitting ∙ ap Ok (same_rule (record { steps = steps_by unit others; days = days_by unit others; times = times; bound = r.bound }) r steps days t refl)

pub found_ok : (text : List ℕ) (res : Result TimedRule TimedRuleError) → IfOk res (λ r. IsTimedRuleText text r) → ((r : TimedRule) → IsTimedRuleText text r → res ≡ Ok r)
    → (IsErr res → (r : TimedRule) → IsTimedRuleText text r → ⊥) × (((r : TimedRule) → ¬ IsTimedRuleText text r) → IsErr res)
found_ok text (Ok r) read every = (λ err. absurd (both_ways false refl err), λ none. absurd (none r read))
found_ok text (Err e) read every = (
  λ err r h. both_ways false refl (subst (λ (q : Result TimedRule TimedRuleError). IsErr q) (every r h) refl),
  λ none. refl,
)

-- what the parts that were read lack, or how they do not go together, is wrong with the text
pub fault_ok : (text : List ℕ) (res : Result TimedRule TimedRuleError) (unit : ClockUnit) (times : DayTimes) (others : Rule) → AreRead text unit times others
    → IfErr res (λ e. ((e ≡ Until) × (bound_of others.end (values_in text (codes "UNTIL=")) ≡ None)) ⊎ ((e ≡ NotTogether) × (fits_clock unit others (lacks_times times) ≡ false)))
    → IfErr res (HasTimedRuleFault text)
fault_ok text (Ok r) unit times others a fault = tt
fault_ok text (Err e) unit times others a (inl until) =
    subst (λ (x : TimedRuleError). HasTimedRuleFault text x) (sym until.0) (record { others = others; written = a.written; bound = until.1 })
fault_ok text (Err e) unit times others a (inr together) =
    subst (λ (x : TimedRuleError). HasTimedRuleFault text x) (sym together.0) (record {
      unit = unit;
      frequency = a.frequency;
      times = times;
      hours = a.hours;
      minutes = a.minutes;
      seconds = a.seconds;
      others = others;
      written = a.written;
      fitting = together.1;
    })
