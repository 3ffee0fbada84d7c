use Rattle.std.proofs.Common.{◌≡◌, ◌+◌, ◌-◌, ◌*◌, ◌/◌, ◌%◌, arith, sym, ◌∙◌, pos, ◌+ℤ◌}
use Rattle.chrono_calendar.proofs.Signed.{casts}
use Rattle.chrono_stored.proofs.MonthsFromMarch.{HasMonth, months-named}
use Rattle.chrono_stored.proofs.march.months_and_day.Goals as goal
use Rattle.chrono_stored.proofs.march.months_and_day.Goals.{After-month_from_march-month}

named : (c : After-month_from_march-month) → HasMonth c.args.days (c.years_and_place-years.result.0 * 12 + (2141 * c.years_and_place-years.result.1 + 197_913) / 65_536 - 3) ((2141 * c.years_and_place-years.result.1 + 197_913) % 65_536 / 2141 + 1)
named c =
    let start : pos c.days_before_day.result +ℤ pos 1 ≡ c.args.days +ℤ pos 95_839_632 = omega (arith, casts, c.days_before_day.ensures) in
    months-named c.args.days c.days_before_day.result c.years_and_place-years.result.0 c.years_and_place-years.result.1 start c.years_and_place-years.ensures.place c.years_and_place-years.ensures.in_year

pub returns-clause-months : goal.returns-clause-months
returns-clause-months c = omega (arith, casts, (named c).months, c.month_from_march-month.ensures.month)

pub returns-clause-day : goal.returns-clause-day
returns-clause-day c = c.month_from_march-month.ensures.day ∙ sym (named c).day
