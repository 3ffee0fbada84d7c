use Rattle.std.proofs.Common.{arith, sym, subst, ◌∙◌, ◌≤ℤ◌, ℤ, pos, w32}
use Rattle.std.proofs.lemmas.Int.{to_z-of_z}
use Rattle.chrono_calendar.proofs.NamedDates.{date_of_day-number}
use Rattle.chrono_calendar.proofs.Signed.{casts}
use Rattle.zone_rule.specs.Changes.{IsYearOfCycle}
use Rattle.zone_rule.proofs.LastChanges.{year_of-cycle}
use Rattle.zone_rule.proofs.rule.year_of_second.Goals as goal

pub returns-clause-in_range : goal.returns-clause-in_range
returns-clause-in_range c =
    let number = (date_of_day-number c.unwrap.result _ (sym c.from_num_days_from_ce_opt.ensures.date ∙ c.unwrap.ensures)).1 in
    let first : pos 719_162 ≤ℤ c.unwrap.result = omega (arith, casts, number, c.div_euclid-day.ensures, c.requires.first, c.requires.last, c.ranges.second.sfits) in
    let last : c.unwrap.result ≤ℤ pos 865_262 = omega (arith, casts, number, c.div_euclid-day.ensures, c.requires.first, c.requires.last, c.ranges.second.sfits) in
    subst (λ (y : ℤ). IsYearOfCycle y) (sym (to_z-of_z w32 c.year.result (record { sfits = c.year.type_inv }) ∙ c.year.ensures.value))
    (year_of-cycle c.unwrap.result first last)
