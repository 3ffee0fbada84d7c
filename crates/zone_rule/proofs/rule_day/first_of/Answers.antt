use Rattle.std.proofs.Common.{ap, sym, ◌∙◌, ◌≡◌, ℤ, to_z, of_z, w32}
use Rattle.std.proofs.lemmas.Int.{to_z-of_z}
use Rattle.chrono_calendar.specs.Days.{day_number_of_yo}
use Rattle.zone_rule.proofs.DaysInYears.{date_of_yo-number}
use Rattle.zone_rule.proofs.rule_day.first_of.Goals as goal

pub returns-clause-value : goal.returns-clause-value
returns-clause-value c =
    let year : to_z w32 (of_z w32 c.args.year) ≡ c.args.year = to_z-of_z w32 c.args.year c.ranges.year in
    to_z-of_z w32 c.num_days_from_ce.result (record { sfits = c.num_days_from_ce.type_inv })
    ∙ c.num_days_from_ce.ensures.value
    ∙ date_of_yo-number c.unwrap.result (to_z w32 (of_z w32 c.args.year)) 1 (sym c.unwrap.ensures ∙ c.from_yo_opt.ensures.date)
    ∙ ap (λ (y : ℤ). day_number_of_yo y 1) year
