-- A rule of a text counts days by BYSETPOS only where a day has one of its times.
use Rattle.std.proofs.Common.{◌≡◌, ◌⊎◌, ◌||◌, inl, inr, ℕ, List, Option, Some, None, Ok, Err, IfErr, true, false, Bool, refl, ap, ◌∙◌}
use Rattle.std.specs.Prelude.{Result}
use Rattle.std.proofs.lemmas.Bool.{and_parts}
use Rattle.chrono_rules.specs.RuleParts.{lacks_positions}
use Rattle.chrono_rules.specs.declared.rule.Rule.{Rule}
use Rattle.zoned_rules.specs.LocalTimes.{has_one_time, is_above_hours, lacks_times}
use Rattle.zoned_rules.specs.declared.clock_steps.ClockSteps.{ClockSteps}
use Rattle.zoned_rules.specs.declared.clock_steps.ClockUnit.{ClockUnit}
use Rattle.zoned_rules.specs.declared.clock_steps.ClockUnit.TheVariants.{Day, Hour, Minute, Second}
use Rattle.calendar_rules.specs.Recurrences.{IsRuleOf}
use Rattle.calendar_rules.specs.TimedRuleTexts.{days_by, fits_clock, steps_by}
use Rattle.calendar_rules.specs.declared.timed_rule.TimedRule.{TimedRule}

abbrev Fits : TimedRule → Type 0
Fits r = (lacks_positions r.days ≡ true) ⊎ (has_one_time r.steps.unit r.times ≡ true)

one_of : (a b : Bool) → (a || b) ≡ true → (a ≡ true) ⊎ (b ≡ true)
one_of true b h = inl refl
one_of false b h = inr h

by_unit : (unit : ClockUnit) (others : Rule) (r : TimedRule) → r.days ≡ days_by unit others → r.steps ≡ steps_by unit others → fits_clock unit others (lacks_times r.times) ≡ true → Fits r
unfolding is_above_hours
by_unit Day others r days steps fitting = either (one_of (lacks_positions others) (lacks_times r.times) fitting)
  where
    either : (lacks_positions others ≡ true) ⊎ (lacks_times r.times ≡ true) → Fits r
    either (inl lacks) = inl (ap lacks_positions days ∙ lacks)
    either (inr timeless) = inr (ap (λ (s : ClockSteps). has_one_time s.unit r.times) steps ∙ timeless)
by_unit Hour others r days steps fitting = inl (ap lacks_positions days ∙ (and_parts (lacks_positions others) _ fitting).0)
by_unit Minute others r days steps fitting = inl (ap lacks_positions days ∙ (and_parts (lacks_positions others) _ fitting).0)
by_unit Second others r days steps fitting = inl (ap lacks_positions days ∙ (and_parts (lacks_positions others) _ fitting).0)

pub fits_zone : (text : Option (List ℕ)) (r : TimedRule) → IsRuleOf text r → Fits r
fits_zone None r alone = inl (ap (λ (q : TimedRule). lacks_positions q.days) alone)
fits_zone (Some text) r h = by_unit h.unit h.others r h.days h.steps h.fitting

-- what holds anyway holds of an error
pub of_error : {A E : Type 0} (answer : Result A E) (P : Type 0) → P → IfErr answer (λ _. P)
of_error (Ok a) P p = tt
of_error (Err e) P p = p
