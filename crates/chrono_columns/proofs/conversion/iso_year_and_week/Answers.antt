use Rattle.std.proofs.Common.{◌≡◌, ◌+◌, ◌-◌, ◌*◌, ◌/◌, arith, rules, sym, ◌∙◌, pos, ◌+ℤ◌, w32}
use Rattle.std.proofs.lemmas.Int.{to_z-of_z}
use Rattle.chrono_calendar.specs.Weeks.{thursday_of_week, iso_year_of, iso_week_of}
use Rattle.chrono_calendar.proofs.Signed.{casts}
use Rattle.chrono_calendar.proofs.IsoWeeks.{thursday_of_week-monday, days_from_monday-of, iso_name-thursday}
use Rattle.chrono_stored.proofs.DayNumbers.{ordinal_name-counted}
use Rattle.chrono_columns.proofs.conversion.iso_year_and_week.Goals as goal

-- the year and the place that are found are those of the Thursday
named : (c : goal.After-weeks_in) → (iso_year_of c.args.date ≡ c.year_after.result) × (iso_week_of c.args.date ≡ 1 + (c.years_and_place-years.result.1 + 1 - 1) / 7)
named c =
    let n = c.args.date in
    let before = 7 * c.weeks_in-weeks.result + 3 in
    let start : pos before +ℤ pos 1 ≡ thursday_of_week n +ℤ pos 95_839_632 =
    omega (arith, casts, c.days_before.ensures, c.weeks_in-weeks.ensures, thursday_of_week-monday n, days_from_monday-of n) in
    let name = ordinal_name-counted (thursday_of_week n) c.year_after.result before c.years_and_place-years.result.0 c.years_and_place-years.result.1 start c.year_after.ensures c.years_and_place-years.ensures.place c.years_and_place-years.ensures.in_year in
    iso_name-thursday n c.year_after.result (c.years_and_place-years.result.1 + 1) name.1 name.0

pub returns-clause-year : goal.returns-clause-year
returns-clause-year c = to_z-of_z w32 c.year_after.result (search rules) ∙ sym (named c).0

pub returns-clause-week : goal.returns-clause-week
returns-clause-week c = omega (arith, c.weeks_in.ensures, (named c).1)
