use Rattle.std.proofs.Common.{◌≡◌, ◌+◌, ◌-◌, ◌*◌, ◌/◌, ◌%◌, arith, sym, ◌∙◌, pos, ◌+ℤ◌}
use Rattle.chrono_calendar.proofs.Signed.{casts}
use Rattle.chrono_stored.proofs.MonthsFromMarch.{HasMonth, months-named}
use Rattle.chrono_columns.proofs.months.month_and_day.Goals as goal

found : (c : goal.After-month_from_march-month) → let scaled = 2141 * c.years_and_place-years.result.1 + 197_913 in HasMonth c.args.date (c.years_and_place-years.result.0 * 12 + scaled / 65_536 - 3) (scaled % 65_536 / 2141 + 1)
found c =
    let counted : pos c.days_before.result +ℤ pos 1 ≡ c.args.date +ℤ pos 95_839_632 = omega (arith, casts, c.days_before.ensures) in
    let years = c.years_and_place-years.ensures in
    months-named c.args.date c.days_before.result c.years_and_place-years.result.0 c.years_and_place-years.result.1 counted years.place years.in_year

pub returns-clause-month : goal.returns-clause-month
returns-clause-month c = let named = found c in omega (arith, casts, named.months, c.month_from_march-month.ensures.month)

pub returns-clause-day : goal.returns-clause-day
returns-clause-day c = let named = found c in c.month_from_march-month.ensures.day ∙ sym named.day
