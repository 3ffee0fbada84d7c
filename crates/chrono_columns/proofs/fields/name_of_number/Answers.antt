use Rattle.std.proofs.Common.{◌∙◌, ap, rules, sym, w32}
use Rattle.std.proofs.lemmas.Int.{to_z-of_z}
use Rattle.chrono_calendar.specs.Days.{is_date}
use Rattle.chrono_columns.proofs.Entries.{year-there, year-none, month-there, month-none, day-there, day-none}
use Rattle.chrono_columns.proofs.fields.name_of_number.Goals as goal

pub returns-then-is_date-clause-year : goal.returns-then-is_date-clause-year
returns-then-is_date-clause-year c =
    let here = to_z-of_z w32 c.args.number c.ranges.number in
    let test = sym c.if-is_date.true ∙ c.is_date.ensures ∙ ap (λ z. is_date z) here in
    let same = rw here at c.nearest_date.ensures.same in
    let near = to_z-of_z w32 c.nearest_date.result (search rules) in
    to_z-of_z w32 c.year_month_day-year.result.0 (search rules)
    ∙ c.year_month_day-year.ensures.year ∙ year-there c.args.number _ test (λ h. near ∙ same h)

pub returns-then-is_date-clause-month : goal.returns-then-is_date-clause-month
returns-then-is_date-clause-month c =
    let here = to_z-of_z w32 c.args.number c.ranges.number in
    let test = sym c.if-is_date.true ∙ c.is_date.ensures ∙ ap (λ z. is_date z) here in
    let same = rw here at c.nearest_date.ensures.same in
    let near = to_z-of_z w32 c.nearest_date.result (search rules) in
    c.year_month_day-year.ensures.month ∙ month-there c.args.number _ test (λ h. near ∙ same h)

pub returns-then-is_date-clause-day : goal.returns-then-is_date-clause-day
returns-then-is_date-clause-day c =
    let here = to_z-of_z w32 c.args.number c.ranges.number in
    let test = sym c.if-is_date.true ∙ c.is_date.ensures ∙ ap (λ z. is_date z) here in
    let same = rw here at c.nearest_date.ensures.same in
    let near = to_z-of_z w32 c.nearest_date.result (search rules) in
    c.year_month_day-year.ensures.day ∙ day-there c.args.number _ test (λ h. near ∙ same h)

pub returns-else-is_date-clause-year : goal.returns-else-is_date-clause-year
returns-else-is_date-clause-year c =
    let here = to_z-of_z w32 c.args.number c.ranges.number in
    year-none c.args.number (sym c.if-is_date.false ∙ c.is_date.ensures ∙ ap (λ z. is_date z) here)

pub returns-else-is_date-clause-month : goal.returns-else-is_date-clause-month
returns-else-is_date-clause-month c =
    let here = to_z-of_z w32 c.args.number c.ranges.number in
    month-none c.args.number (sym c.if-is_date.false ∙ c.is_date.ensures ∙ ap (λ z. is_date z) here)

pub returns-else-is_date-clause-day : goal.returns-else-is_date-clause-day
returns-else-is_date-clause-day c =
    let here = to_z-of_z w32 c.args.number c.ranges.number in
    day-none c.args.number (sym c.if-is_date.false ∙ c.is_date.ensures ∙ ap (λ z. is_date z) here)
