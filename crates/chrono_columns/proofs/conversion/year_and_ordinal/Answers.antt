use Rattle.std.proofs.Common.{◌≡◌, ◌+◌, arith, rules, sym, ◌∙◌, pos, ◌+ℤ◌, w32}
use Rattle.std.proofs.lemmas.Int.{to_z-of_z}
use Rattle.chrono_calendar.specs.Days.{IsOrdinalName, day_number_of_yo}
use Rattle.chrono_calendar.proofs.Signed.{casts}
use Rattle.chrono_calendar.proofs.Names.{year_of-number, ordinal_of-number}
use Rattle.chrono_stored.proofs.DayNumbers.{ordinal_name-counted}
use Rattle.chrono_columns.proofs.conversion.year_and_ordinal.Goals as goal

-- the day that is converted has the name that is found
found : (c : goal.After-year_after) → IsOrdinalName c.year_after.result (c.years_and_place-years.result.1 + 1) × (day_number_of_yo c.year_after.result (c.years_and_place-years.result.1 + 1) ≡ c.args.date)
found c =
    let before : pos c.days_before.result +ℤ pos 1 ≡ c.args.date +ℤ pos 95_839_632 = omega (arith, casts, c.days_before.ensures) in
    ordinal_name-counted c.args.date c.year_after.result c.days_before.result c.years_and_place-years.result.0 c.years_and_place-years.result.1 before c.year_after.ensures c.years_and_place-years.ensures.place c.years_and_place-years.ensures.in_year

pub returns-clause-year : goal.returns-clause-year
returns-clause-year c =
    let name = found c in
    to_z-of_z w32 c.year_after.result (search rules) ∙ sym (year_of-number _ _ _ name.1 name.0)

pub returns-clause-ordinal : goal.returns-clause-ordinal
returns-clause-ordinal c =
    let name = found c in
    sym (ordinal_of-number _ _ _ name.1 name.0)
