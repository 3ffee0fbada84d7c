use Rattle.std.proofs.Common.{rules, refl}
use Rattle.pattern_columns.proofs.DateOrders.{exchanged_both, same_names}
use Rattle.pattern_columns.specs.declared.layout.DateOrder.TheVariants.{YearMonthDay, DayMonthYear, MonthDayYear}
use Rattle.pattern_columns.proofs.arranged.to_iso.Goals as goal

pub returns-in-YearMonthDay : goal.returns-in-YearMonthDay
returns-in-YearMonthDay c =
    let first = c.exchanged-first.ensures in
    let second = c.exchanged-second.ensures in
    same_names c.args.layout YearMonthDay c.args.text _ (search rules) (search rules) (search rules) (record { year = refl; month = refl; day = refl })
    (exchanged_both _ _ _ first.same first.back) (exchanged_both _ _ _ second.same second.back)

pub returns-in-DayMonthYear : goal.returns-in-DayMonthYear
returns-in-DayMonthYear c =
    let first = c.exchanged-first-in-DayMonthYear.ensures in
    let second = c.exchanged-second-in-DayMonthYear.ensures in
    same_names c.args.layout DayMonthYear c.args.text _ (search rules) (search rules) (search rules) (record { year = refl; month = refl; day = refl })
    (exchanged_both _ _ _ first.same first.back) (exchanged_both _ _ _ second.same second.back)

pub returns-in-MonthDayYear : goal.returns-in-MonthDayYear
returns-in-MonthDayYear c =
    let first = c.exchanged-first-in-MonthDayYear.ensures in
    let second = c.exchanged-second-in-MonthDayYear.ensures in
    same_names c.args.layout MonthDayYear c.args.text _ (search rules) (search rules) (search rules) (record { year = refl; month = refl; day = refl })
    (exchanged_both _ _ _ first.same first.back) (exchanged_both _ _ _ second.same second.back)
