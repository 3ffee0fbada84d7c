-- A calendar without RRULE has one instance at most.
use Rattle.std.proofs.Common.{◌≡◌, ℕ, ◌<◌, List, Option, None, ℤ, ◌≤ℤ◌, arith, ap, subst, ◌∙◌}
use Rattle.std.proofs.lemmas.Int.{ints}
use Rattle.calendar_text.specs.CalendarTexts.{CalendarParts}
use Rattle.zoned_rules.specs.LocalTimes.{LocalParts}
use Rattle.zoned_rules.specs.Recurs.{IsLeastOf, IsNumbered, IsOneOf, IsWithin, Recurs, RecursWithin}
use Rattle.zoned_rules.specs.declared.bound.Bound.{Bound}
use Rattle.zoned_rules.specs.declared.bound.Bound.TheVariants.{Count}
use Rattle.zoned_rules.specs.declared.zoned_recurrence.ZonedRecurrence.{ZonedRecurrence}
use Rattle.calendar_rules.specs.Recurrences.{IsRuleOf, MeansRecurrence}
use Rattle.calendar_rules.specs.declared.timed_rule.TimedRule.{TimedRule}

-- the first of one is the least
least_of_one : (P : ℤ → Type 0) (b : Bound) (u : ℤ) → b ≡ Count 1 → IsWithin b P u → IsLeastOf P u
least_of_one P b u is within =
    let one : IsOneOf P 1 u = subst (λ (e : Bound). IsWithin e P u) is within in
    let first : one.number ≡ 0 = omega (arith, one.fewer) in
    subst (λ (k : ℕ). IsNumbered P k u) first one.numbered

bound_of_none : (text : Option (List ℕ)) (r : TimedRule) → text ≡ None → IsRuleOf text r → r.bound ≡ Count 1
bound_of_none text r is h = ap (λ (t : TimedRule). t.bound) (subst (λ (o : Option (List ℕ)). IsRuleOf o r) is h)

pub one_instance : (ahead : ℤ → ℤ → ℤ) (zone : ℤ) (c : CalendarParts) (s : ZonedRecurrence ℤ) (u v : ℤ) → MeansRecurrence ahead zone c s → c.rule ≡ None
    → RecursWithin s.rule.local (ahead zone) s.rule.bound u → RecursWithin s.rule.local (ahead zone) s.rule.bound v → u ≡ v
one_instance ahead zone c s u v means none here there =
    let P = Recurs s.rule.local (ahead zone) in
    let once : s.rule.bound ≡ Count 1 = means.bound ∙ bound_of_none c.rule means.rule none means.written in
    let a = least_of_one P s.rule.bound u once here.within in
    let b = least_of_one P s.rule.bound v once there.within in
    omega (arith, ints, a.least v b.member, b.least u a.member)
