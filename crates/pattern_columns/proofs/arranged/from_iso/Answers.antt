use Rattle.std.proofs.Common.{rules, refl}
use Rattle.pattern_columns.proofs.DateOrders.{laid_out}
use Rattle.pattern_columns.specs.declared.layout.DateOrder.TheVariants.{YearMonthDay, DayMonthYear, MonthDayYear}
use Rattle.pattern_columns.proofs.arranged.from_iso.Goals as goal

pub returns-in-YearMonthDay-clause-date : goal.returns-in-YearMonthDay-clause-date
returns-in-YearMonthDay-clause-date c =
    laid_out c.args.layout YearMonthDay c.args.text _ (search rules) (search rules) (search rules) (record { year = refl; month = refl; day = refl })
    (λ first second. (c.exchanged-mark.ensures.same first, c.exchanged-mark.ensures.same first))

pub returns-in-DayMonthYear-clause-date : goal.returns-in-DayMonthYear-clause-date
returns-in-DayMonthYear-clause-date c =
    laid_out c.args.layout DayMonthYear c.args.text _ (search rules) (search rules) (search rules) (record { year = refl; month = refl; day = refl })
    (λ first second. (c.exchanged-mark.ensures.same first, c.exchanged-mark.ensures.same first))

pub returns-in-MonthDayYear-clause-date : goal.returns-in-MonthDayYear-clause-date
returns-in-MonthDayYear-clause-date c =
    laid_out c.args.layout MonthDayYear c.args.text _ (search rules) (search rules) (search rules) (record { year = refl; month = refl; day = refl })
    (λ first second. (c.exchanged-mark.ensures.same first, c.exchanged-mark.ensures.same first))
