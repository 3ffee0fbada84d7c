use Rattle.std.proofs.Common.{◌≡◌, ◌+◌, arith, rules, sym, ◌∙◌, pos, ◌+ℤ◌, w32}
use Rattle.std.proofs.lemmas.Int.{to_z-of_z}
use Rattle.chrono_calendar.specs.Days.{IsOrdinalName, day_number_of_yo}
use Rattle.chrono_calendar.proofs.Signed.{casts}
use Rattle.chrono_calendar.proofs.Names.{year_of-number, ordinal_of-number}
use Rattle.chrono_stored.proofs.DayNumbers.{ordinal_name-counted}
use Rattle.chrono_stored.proofs.conversion.year_and_ordinal.Goals as goal

-- the year and the ordinal that are found name the day
named : (c : goal.After-year_after) → IsOrdinalName c.year_after.result (c.years_and_place-years.result.1 + 1) × (day_number_of_yo c.year_after.result (c.years_and_place-years.result.1 + 1) ≡ c.args.days)
named c =
    let start : pos c.days_before_day.result +ℤ pos 1 ≡ c.args.days +ℤ pos 95_839_632 = omega (arith, casts, c.days_before_day.ensures) in
    ordinal_name-counted c.args.days c.year_after.result c.days_before_day.result c.years_and_place-years.result.0 c.years_and_place-years.result.1 start c.year_after.ensures c.years_and_place-years.ensures.place c.years_and_place-years.ensures.in_year

pub returns-clause-year : goal.returns-clause-year
returns-clause-year c =
    to_z-of_z w32 c.year_after.result (search rules)
    ∙ sym (year_of-number c.args.days c.year_after.result (c.years_and_place-years.result.1 + 1) (named c).1 (named c).0)

pub returns-clause-ordinal : goal.returns-clause-ordinal
returns-clause-ordinal c =
    sym (ordinal_of-number c.args.days c.year_after.result (c.years_and_place-years.result.1 + 1) (named c).1 (named c).0)
