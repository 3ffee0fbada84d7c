use Rattle.std.proofs.Common.{◌≡◌, ℕ, ◌+◌, ◌-◌, ◌*◌, ◌/◌, arith, rules, sym, ◌∙◌, pos, ◌+ℤ◌, w32}
use Rattle.std.proofs.lemmas.Int.{to_z-of_z}
use Rattle.chrono_calendar.specs.Days.{IsOrdinalName, day_number_of_yo}
use Rattle.chrono_calendar.specs.Weeks.{thursday_of_week, iso_year_of, iso_week_of}
use Rattle.chrono_calendar.proofs.Signed.{casts}
use Rattle.chrono_calendar.proofs.Names.{year_length_bounds}
use Rattle.chrono_calendar.proofs.IsoWeeks.{thursday_of_week-monday, days_from_monday-of, iso_name-thursday, iso_year_of-range}
use Rattle.chrono_stored.proofs.DayNumbers.{ordinal_name-counted}
use Rattle.chrono_stored.proofs.iso_week.iso_year_and_week.Goals as goal

-- the place of the Thursday in its year, from 0
abbrev place : goal.After-year_after → ℕ
place c =
    let n = c.years_and_weeks-years.result.0 in
    7 * c.weeks_in.result + 3 + n / 100 - (365 * n + n / 4 + n / 400)

-- the year that is found and the place there name the Thursday
thursday : (c : goal.After-year_after) → IsOrdinalName c.year_after.result (place c + 1) × (day_number_of_yo c.year_after.result (place c + 1) ≡ thursday_of_week c.args.days)
thursday c =
    let days = 7 * c.weeks_in.result + 3 in
    let start : pos days +ℤ pos 1 ≡ thursday_of_week c.args.days +ℤ pos 95_839_632 =
    omega (arith, casts, c.days_before_day.ensures, c.weeks_in.ensures, thursday_of_week-monday c.args.days, days_from_monday-of c.args.days) in
    ordinal_name-counted (thursday_of_week c.args.days) c.year_after.result days c.years_and_weeks-years.result.0 (place c) start c.year_after.ensures (omega (arith, c.years_and_weeks-years.ensures.begun)) c.years_and_weeks-years.ensures.in_year

named : (c : goal.After-year_after) → (iso_year_of c.args.days ≡ c.year_after.result) × (iso_week_of c.args.days ≡ 1 + (place c + 1 - 1) / 7)
named c =
    iso_name-thursday c.args.days c.year_after.result (place c + 1) (thursday c).1 (thursday c).0

pub returns-clause-year : goal.returns-clause-year
returns-clause-year c = to_z-of_z w32 c.year_after.result (search rules) ∙ sym (named c).0

pub returns-clause-week : goal.returns-clause-week
returns-clause-week c = omega (arith, (named c).1, c.years_and_weeks-years.ensures.weeks)

pub returns-clause-year_in_range : goal.returns-clause-year_in_range
returns-clause-year_in_range c =
    rw ((named c).0, sym (to_z-of_z w32 c.year_after.result (search rules))) at (iso_year_of-range c.args.days c.requires)

pub returns-clause-week_in_range : goal.returns-clause-week_in_range
returns-clause-week_in_range c = omega (arith, (thursday c).0, c.years_and_weeks-years.ensures.weeks, year_length_bounds c.year_after.result)
