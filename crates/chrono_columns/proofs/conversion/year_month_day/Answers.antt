use Rattle.std.proofs.Common.{◌≡◌, ◌+◌, ◌-◌, ◌*◌, ◌/◌, ◌%◌, ◌<◌, arith, rules, sym, ◌∙◌, pos, ◌+ℤ◌, ◌-ℤ◌, w32}
use Rattle.std.proofs.lemmas.Int.{to_z-of_z}
use Rattle.chrono_calendar.proofs.Signed.{casts}
use Rattle.chrono_stored.proofs.FromMarch.{HasCalendarName, named-to_december, named-from_january}
use Rattle.chrono_columns.proofs.conversion.year_month_day.Goals as goal

-- a place from 1 March to 31 December has its name in the year in which March lies
autumn : (c : goal.After-year_after) → let scaled = 2141 * c.years_and_place-years.result.1 + 197_913 in HasCalendarName c.args.date (c.year_after.result -ℤ pos 1) (scaled / 65_536) (scaled % 65_536 / 2141 + 1)
autumn c =
    let counted : pos c.days_before.result +ℤ pos 1 ≡ c.args.date +ℤ pos 95_839_632 = omega (arith, casts, c.days_before.ensures) in
    let found = c.years_and_place-years.ensures in
    let short : c.years_and_place-years.result.1 < 306 = omega (arith, c.if-place-lt-DAYS_FROM_MARCH.true) in
    named-to_december c.args.date c.year_after.result c.days_before.result c.years_and_place-years.result.0 c.years_and_place-years.result.1 counted c.year_after.ensures found.place found.in_year short

pub returns-then-place-lt-DAYS_FROM_MARCH-clause-year : goal.returns-then-place-lt-DAYS_FROM_MARCH-clause-year
returns-then-place-lt-DAYS_FROM_MARCH-clause-year c = let name = autumn c in omega (arith, casts, name.year)

pub returns-then-place-lt-DAYS_FROM_MARCH-clause-month : goal.returns-then-place-lt-DAYS_FROM_MARCH-clause-month
returns-then-place-lt-DAYS_FROM_MARCH-clause-month c = let name = autumn c in omega (arith, c.month_from_march-month.ensures.month, name.month)

pub returns-then-place-lt-DAYS_FROM_MARCH-clause-day : goal.returns-then-place-lt-DAYS_FROM_MARCH-clause-day
returns-then-place-lt-DAYS_FROM_MARCH-clause-day c = let name = autumn c in omega (arith, c.month_from_march-month.ensures.day, name.day)

-- January and February in the year after it
winter : (c : goal.After-year_after-else-place-lt-DAYS_FROM_MARCH) → let scaled = 2141 * c.years_and_place-years.result.1 + 197_913 in HasCalendarName c.args.date c.year_after-else-place-lt-DAYS_FROM_MARCH.result (scaled / 65_536 - 12) (scaled % 65_536 / 2141 + 1)
winter c =
    let counted : pos c.days_before.result +ℤ pos 1 ≡ c.args.date +ℤ pos 95_839_632 = omega (arith, casts, c.days_before.ensures) in
    let found = c.years_and_place-years.ensures in
    let long = c.if-place-lt-DAYS_FROM_MARCH.false in
    named-from_january c.args.date c.year_after-else-place-lt-DAYS_FROM_MARCH.result c.days_before.result c.years_and_place-years.result.0 c.years_and_place-years.result.1 counted c.year_after-else-place-lt-DAYS_FROM_MARCH.ensures found.place found.in_year (omega (arith, long))

pub returns-else-place-lt-DAYS_FROM_MARCH-clause-year : goal.returns-else-place-lt-DAYS_FROM_MARCH-clause-year
returns-else-place-lt-DAYS_FROM_MARCH-clause-year c =
    let name = winter c in
    to_z-of_z w32 c.year_after-else-place-lt-DAYS_FROM_MARCH.result (search rules) ∙ sym name.year

pub returns-else-place-lt-DAYS_FROM_MARCH-clause-month : goal.returns-else-place-lt-DAYS_FROM_MARCH-clause-month
returns-else-place-lt-DAYS_FROM_MARCH-clause-month c = let name = winter c in omega (arith, c.month_from_march-month.ensures.month, name.month)

pub returns-else-place-lt-DAYS_FROM_MARCH-clause-day : goal.returns-else-place-lt-DAYS_FROM_MARCH-clause-day
returns-else-place-lt-DAYS_FROM_MARCH-clause-day c = let name = winter c in omega (arith, c.month_from_march-month.ensures.day, name.day)
