use Rattle.std.proofs.Common.{arith, ap, sym, subst, ◌∙◌, ◌≡◌, ℤ, to_z, of_z, w32}
use Rattle.std.proofs.lemmas.Int.{to_z-of_z}
use Rattle.chrono_calendar.specs.Days.{day_number_of_yo}
use Rattle.chrono_calendar.proofs.Signed.{casts}
use Rattle.zone_rule.specs.Changes.{IsRuleDay, day_in_year}
use Rattle.zone_rule.specs.RuleDays.{ordinal_of_julian}
use Rattle.zone_rule.specs.declared.rule_day.RuleDay.{RuleDay}
use Rattle.zone_rule.specs.declared.rule_day.RuleDay.TheVariants.{Julian, FromZero}
use Rattle.zone_rule.proofs.DaysInYears.{day_in_year-from_zero, day_in_year-julian, ordinal_of_julian-bounds}
use Rattle.zone_rule.proofs.rule_day.RuleDay.number_in.Goals as goal

pub returns-in-Julian-clause-value : goal.returns-in-Julian-clause-value
returns-in-Julian-clause-value c =
    let n = c.in-Julian.n in
    let year : to_z w32 (of_z w32 c.args.year) ≡ c.args.year = to_z-of_z w32 c.args.year c.ranges.year in
    let first : c.first_of.result ≡ day_number_of_yo c.args.year 1 = c.first_of.ensures.value ∙ ap (λ (y : ℤ). day_number_of_yo y 1) year in
    let place : c.julian_ordinal.result ≡ ordinal_of_julian c.args.year n = c.julian_ordinal.ensures ∙ ap (λ (y : ℤ). ordinal_of_julian y n) year in
    let day : IsRuleDay (Julian n) = subst (λ (r : RuleDay). IsRuleDay r) c.in-Julian.is c.requires.day in
    let bounds = ordinal_of_julian-bounds c.args.year n in
    omega (arith, casts, first, c.first_of.ensures.in_range.0, c.first_of.ensures.in_range.1, place, bounds.0, bounds.1, day.0, day.1, day_in_year-julian c.args.year n)
    ∙ sym (ap (day_in_year c.args.year) c.in-Julian.is)

pub returns-in-Julian-clause-in_range : goal.returns-in-Julian-clause-in_range
returns-in-Julian-clause-in_range c =
    let n = c.in-Julian.n in
    let year : to_z w32 (of_z w32 c.args.year) ≡ c.args.year = to_z-of_z w32 c.args.year c.ranges.year in
    let place : c.julian_ordinal.result ≡ ordinal_of_julian c.args.year n = c.julian_ordinal.ensures ∙ ap (λ (y : ℤ). ordinal_of_julian y n) year in
    let day : IsRuleDay (Julian n) = subst (λ (r : RuleDay). IsRuleDay r) c.in-Julian.is c.requires.day in
    let bounds = ordinal_of_julian-bounds c.args.year n in
    omega (arith, casts, c.first_of.ensures.in_range.0, c.first_of.ensures.in_range.1, place, bounds.0, bounds.1, day.0, day.1)

pub returns-in-FromZero-clause-value : goal.returns-in-FromZero-clause-value
returns-in-FromZero-clause-value c =
    let n = c.in-FromZero.n in
    let year : to_z w32 (of_z w32 c.args.year) ≡ c.args.year = to_z-of_z w32 c.args.year c.ranges.year in
    let first : c.first_of-in-FromZero.result ≡ day_number_of_yo c.args.year 1 = c.first_of-in-FromZero.ensures.value ∙ ap (λ (y : ℤ). day_number_of_yo y 1) year in
    let day : IsRuleDay (FromZero n) = subst (λ (r : RuleDay). IsRuleDay r) c.in-FromZero.is c.requires.day in
    omega (arith, casts, first, c.first_of-in-FromZero.ensures.in_range.0, c.first_of-in-FromZero.ensures.in_range.1, c.from.ensures, day, day_in_year-from_zero c.args.year n)
    ∙ sym (ap (day_in_year c.args.year) c.in-FromZero.is)

pub returns-in-FromZero-clause-in_range : goal.returns-in-FromZero-clause-in_range
returns-in-FromZero-clause-in_range c =
    let n = c.in-FromZero.n in
    let day : IsRuleDay (FromZero n) = subst (λ (r : RuleDay). IsRuleDay r) c.in-FromZero.is c.requires.day in
    omega (arith, casts, c.first_of-in-FromZero.ensures.in_range.0, c.first_of-in-FromZero.ensures.in_range.1, c.from.ensures, day)
