use Rattle.std.proofs.Common.{◌∙◌, ap, rules, sym, pos, ◌+ℤ◌, w32, w64}
use Rattle.std.proofs.lemmas.Int.{to_z-of_z}
use Rattle.chrono_calendar.specs.Days.{is_date}
use Rattle.chrono_calendar.proofs.Dates.{is_date-fact}
use Rattle.chrono_columns.proofs.Entries.{unix_date-there, unix_date-none}
use Rattle.chrono_columns.proofs.unix.date_of_days.Goals as goal

pub returns-then-is_unix_date : goal.returns-then-is_unix_date
returns-then-is_unix_date c =
    let here = to_z-of_z w64 c.args.days c.ranges.days in
    let test = sym c.if-is_unix_date.true ∙ c.is_unix_date.ensures ∙ ap (λ z. is_date (z +ℤ pos 719_163)) here in
    let near = (rw here at c.nearest_unix_date-date.ensures.same) (is_date-fact (c.args.days +ℤ pos 719_163) (sym test)) in
    to_z-of_z w32 c.nearest_unix_date-date.result (search rules) ∙ near ∙ unix_date-there c.args.days test

pub returns-else-is_unix_date : goal.returns-else-is_unix_date
returns-else-is_unix_date c =
    let here = to_z-of_z w64 c.args.days c.ranges.days in
    unix_date-none c.args.days (sym c.if-is_unix_date.false ∙ c.is_unix_date.ensures ∙ ap (λ z. is_date (z +ℤ pos 719_163)) here)
