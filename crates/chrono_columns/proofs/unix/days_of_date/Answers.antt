use Rattle.std.proofs.Common.{◌∙◌, arith, ap, sym, w32}
use Rattle.std.proofs.lemmas.Int.{to_z-of_z}
use Rattle.chrono_calendar.specs.Days.{is_date}
use Rattle.chrono_calendar.proofs.Dates.{is_date-fact}
use Rattle.chrono_calendar.proofs.Signed.{casts}
use Rattle.chrono_columns.proofs.Entries.{unix_days-there, unix_days-none}
use Rattle.chrono_columns.proofs.unix.days_of_date.Goals as goal

pub returns-then-is_date : goal.returns-then-is_date
returns-then-is_date c =
    let here = to_z-of_z w32 c.args.number c.ranges.number in
    let test = sym c.if-is_date.true ∙ c.is_date.ensures ∙ ap (λ z. is_date z) here in
    let date = is_date-fact c.args.number (sym test) in
    let near = (rw here at c.nearest_date.ensures.same) date in
    omega (arith, casts, near, date, c.from-days.ensures) ∙ unix_days-there c.args.number test

pub returns-else-is_date : goal.returns-else-is_date
returns-else-is_date c =
    let here = to_z-of_z w32 c.args.number c.ranges.number in
    unix_days-none c.args.number (sym c.if-is_date.false ∙ c.is_date.ensures ∙ ap (λ z. is_date z) here)
