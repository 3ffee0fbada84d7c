use Rattle.std.proofs.Common.{◌∙◌, ap, rules, sym, w32}
use Rattle.std.proofs.lemmas.Int.{to_z-of_z}
use Rattle.chrono_calendar.specs.Days.{is_date}
use Rattle.chrono_columns.proofs.Entries.{weekday-there, weekday-none}
use Rattle.chrono_columns.proofs.fields.weekday_of_number.Goals as goal

pub returns-then-is_date : goal.returns-then-is_date
returns-then-is_date c =
    let here = to_z-of_z w32 c.args.number c.ranges.number in
    let test = sym c.if-is_date.true ∙ c.is_date.ensures ∙ ap (λ z. is_date z) here in
    let same = rw here at c.nearest_date.ensures.same in
    let near = to_z-of_z w32 c.nearest_date.result (search rules) in
    c.weekday-day.ensures.day ∙ weekday-there c.args.number _ test (λ h. near ∙ same h)

pub returns-else-is_date : goal.returns-else-is_date
returns-else-is_date c =
    let here = to_z-of_z w32 c.args.number c.ranges.number in
    weekday-none c.args.number (sym c.if-is_date.false ∙ c.is_date.ensures ∙ ap (λ z. is_date z) here)
