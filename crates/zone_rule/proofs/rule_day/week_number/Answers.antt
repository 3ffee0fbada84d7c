use Rattle.std.proofs.Common.{ap, sym, ◌∙◌, ◌≡◌, ℤ, to_z, of_z, w32}
use Rattle.std.proofs.lemmas.Int.{to_z-of_z}
use Rattle.zone_rule.specs.RuleDays.{date_of_week}
use Rattle.zone_rule.proofs.DaysInYears.{date_of_week-exists, date_of_week-number}
use Rattle.zone_rule.proofs.rule_day.week_number.Goals as goal

pub unwrap-requires : goal.unwrap-requires
unwrap-requires c =
    let year : to_z w32 (of_z w32 c.args.year) ≡ c.args.year = to_z-of_z w32 c.args.year c.ranges.year in
    date_of_week-exists c.week_or_last.result c.args.year c.args.month c.args.week c.args.weekday c.requires.year c.requires.month c.requires.week
    (c.week_or_last.ensures ∙ ap (λ (y : ℤ). date_of_week y c.args.month c.args.week c.args.weekday) year)

pub returns-clause-value : goal.returns-clause-value
returns-clause-value c =
    let year : to_z w32 (of_z w32 c.args.year) ≡ c.args.year = to_z-of_z w32 c.args.year c.ranges.year in
    to_z-of_z w32 c.num_days_from_ce.result (record { sfits = c.num_days_from_ce.type_inv })
    ∙ c.num_days_from_ce.ensures.value
    ∙ date_of_week-number c.unwrap.result c.args.year c.args.month c.args.week c.args.weekday c.requires.year c.requires.month
    (sym c.unwrap.ensures ∙ c.week_or_last.ensures ∙ ap (λ (y : ℤ). date_of_week y c.args.month c.args.week c.args.weekday) year)
