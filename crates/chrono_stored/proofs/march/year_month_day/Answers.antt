use Rattle.std.proofs.Common.{◌≡◌, ◌+◌, ◌-◌, ◌*◌, ◌/◌, ◌%◌, arith, rules, sym, ◌∙◌, pos, ◌+ℤ◌, ◌-ℤ◌, w32}
use Rattle.std.proofs.lemmas.Int.{to_z-of_z}
use Rattle.chrono_calendar.proofs.Signed.{casts}
use Rattle.chrono_stored.proofs.FromMarch.{HasCalendarName, named-to_december, named-from_january}
use Rattle.chrono_stored.proofs.march.year_month_day.Goals as goal
use Rattle.chrono_stored.proofs.march.year_month_day.Goals.{After-year_after, After-year_after-else-place-lt-DAYS_FROM_MARCH}

early : (c : After-year_after) → HasCalendarName c.args.days (c.year_after.result -ℤ pos 1) ((2141 * c.years_and_place-years.result.1 + 197_913) / 65_536) ((2141 * c.years_and_place-years.result.1 + 197_913) % 65_536 / 2141 + 1)
early c =
    let start : pos c.days_before_day.result +ℤ pos 1 ≡ c.args.days +ℤ pos 95_839_632 = omega (arith, casts, c.days_before_day.ensures) in
    named-to_december c.args.days c.year_after.result c.days_before_day.result c.years_and_place-years.result.0 c.years_and_place-years.result.1 start c.year_after.ensures c.years_and_place-years.ensures.place c.years_and_place-years.ensures.in_year (omega (arith, c.if-place-lt-DAYS_FROM_MARCH.true))

pub returns-then-place-lt-DAYS_FROM_MARCH-clause-year : goal.returns-then-place-lt-DAYS_FROM_MARCH-clause-year
returns-then-place-lt-DAYS_FROM_MARCH-clause-year c = omega (arith, casts, (early c).year)

pub returns-then-place-lt-DAYS_FROM_MARCH-clause-month : goal.returns-then-place-lt-DAYS_FROM_MARCH-clause-month
returns-then-place-lt-DAYS_FROM_MARCH-clause-month c = c.month_from_march-month.ensures.month ∙ sym (early c).month

pub returns-then-place-lt-DAYS_FROM_MARCH-clause-day : goal.returns-then-place-lt-DAYS_FROM_MARCH-clause-day
returns-then-place-lt-DAYS_FROM_MARCH-clause-day c = c.month_from_march-month.ensures.day ∙ sym (early c).day

late : (c : After-year_after-else-place-lt-DAYS_FROM_MARCH) → HasCalendarName c.args.days c.year_after-else-place-lt-DAYS_FROM_MARCH.result ((2141 * c.years_and_place-years.result.1 + 197_913) / 65_536 - 12) ((2141 * c.years_and_place-years.result.1 + 197_913) % 65_536 / 2141 + 1)
late c =
    let start : pos c.days_before_day.result +ℤ pos 1 ≡ c.args.days +ℤ pos 95_839_632 = omega (arith, casts, c.days_before_day.ensures) in
    named-from_january c.args.days c.year_after-else-place-lt-DAYS_FROM_MARCH.result c.days_before_day.result c.years_and_place-years.result.0 c.years_and_place-years.result.1 start c.year_after-else-place-lt-DAYS_FROM_MARCH.ensures c.years_and_place-years.ensures.place c.years_and_place-years.ensures.in_year (omega (arith, c.if-place-lt-DAYS_FROM_MARCH.false))

pub returns-else-place-lt-DAYS_FROM_MARCH-clause-year : goal.returns-else-place-lt-DAYS_FROM_MARCH-clause-year
returns-else-place-lt-DAYS_FROM_MARCH-clause-year c = to_z-of_z w32 _ (search rules) ∙ sym (late c).year

pub returns-else-place-lt-DAYS_FROM_MARCH-clause-month : goal.returns-else-place-lt-DAYS_FROM_MARCH-clause-month
returns-else-place-lt-DAYS_FROM_MARCH-clause-month c = omega (arith, c.month_from_march-month.ensures.month, (late c).month)

pub returns-else-place-lt-DAYS_FROM_MARCH-clause-day : goal.returns-else-place-lt-DAYS_FROM_MARCH-clause-day
returns-else-place-lt-DAYS_FROM_MARCH-clause-day c = c.month_from_march-month.ensures.day ∙ sym (late c).day
