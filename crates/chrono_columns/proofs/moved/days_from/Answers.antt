use Rattle.std.proofs.Common.{◌∙◌, arith, ap, sym, w32}
use Rattle.std.proofs.lemmas.Bool.{and_parts}
use Rattle.std.proofs.lemmas.Int.{to_z-of_z}
use Rattle.chrono_calendar.specs.Days.{is_date}
use Rattle.chrono_calendar.proofs.Dates.{is_date-fact}
use Rattle.chrono_calendar.proofs.Signed.{casts}
use Rattle.chrono_columns.proofs.Entries.{distance-there, distance-none}
use Rattle.chrono_columns.proofs.moved.days_from.Goals as goal

pub returns-then-is_date : goal.returns-then-is_date
returns-then-is_date c =
    let here = to_z-of_z w32 c.args.number c.ranges.number in
    let there = to_z-of_z w32 c.args.base c.ranges.base in
    let both = and_parts c.is_date.result c.is_date-2.result c.if-is_date.true in
    let end = sym both.0 ∙ c.is_date.ensures ∙ ap (λ z. is_date z) here in
    let start = sym both.1 ∙ c.is_date-2.ensures ∙ ap (λ z. is_date z) there in
    let last = is_date-fact c.args.number (sym end) in
    let first = is_date-fact c.args.base (sym start) in
    let near = (rw here at c.nearest_date.ensures.same) last in
    let near_base = (rw there at c.nearest_date-2.ensures.same) first in
    omega (arith, casts, near, near_base, last, first) ∙ distance-there c.args.number c.args.base end start

pub returns-else-is_date : goal.returns-else-is_date
returns-else-is_date c =
    let here = to_z-of_z w32 c.args.number c.ranges.number in
    let there = to_z-of_z w32 c.args.base c.ranges.base in
    distance-none c.args.number c.args.base c.is_date.result c.is_date-2.result c.if-is_date.false (c.is_date.ensures ∙ ap (λ z. is_date z) here) (c.is_date-2.ensures ∙ ap (λ z. is_date z) there)
