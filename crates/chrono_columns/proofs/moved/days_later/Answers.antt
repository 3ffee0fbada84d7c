use Rattle.std.proofs.Common.{◌∙◌, ◌+ℤ◌, arith, ap, sym, of_z, to_z, w32}
use Rattle.std.proofs.lemmas.Bool.{and_parts}
use Rattle.std.proofs.lemmas.Int.{to_z-of_z}
use Rattle.chrono_calendar.specs.Days.{IsDate, is_date}
use Rattle.chrono_calendar.proofs.Dates.{is_date-fact, is_date-test}
use Rattle.chrono_calendar.proofs.Signed.{casts}
use Rattle.chrono_columns.proofs.Entries.{later-there, later-none}
use Rattle.chrono_columns.proofs.moved.days_later.Goals as goal

pub returns-then-is_date : goal.returns-then-is_date
returns-then-is_date c =
    let n = c.args.number in
    let e = to_z w32 (of_z w32 (to_z w32 (of_z w32 c.nearest_date.result) +ℤ to_z w32 (of_z w32 c.nearest_count.result))) in
    let here = to_z-of_z w32 n c.ranges.number in
    let both = and_parts c.is_date.result c.is_date-2.result c.if-is_date.true in
    let from = is_date-fact n (sym (sym both.0 ∙ c.is_date.ensures ∙ ap (λ z. is_date z) here)) in
    let near = (rw here at c.nearest_date.ensures.same) from in
    let to : IsDate e = is_date-fact e (sym (sym both.1 ∙ c.is_date-2.ensures)) in
    let count = rw (to_z-of_z w32 c.args.days c.ranges.days) at c.nearest_count.ensures.inner in
    let inner = count (omega (arith, casts, near, from, to)) (omega (arith, casts, near, from, to)) in
    later-there c.args.days n e from to (omega (arith, casts, near, inner, from, to))

pub returns-else-is_date : goal.returns-else-is_date
returns-else-is_date c =
    let n = c.args.number in
    let e = to_z w32 (of_z w32 (to_z w32 (of_z w32 c.nearest_date.result) +ℤ to_z w32 (of_z w32 c.nearest_count.result))) in
    let here = to_z-of_z w32 n c.ranges.number in
    let count = rw (to_z-of_z w32 c.args.days c.ranges.days) at c.nearest_count.ensures.same in
    later-none c.args.days n c.is_date.result c.is_date-2.result c.if-is_date.false (c.is_date.ensures ∙ ap (λ z. is_date z) here)
    (λ from to.
    let near = (rw here at c.nearest_date.ensures.same) from in
    let whole = count (omega (arith, casts, from, to)) (omega (arith, casts, from, to)) in
    let date : IsDate e = (omega (arith, casts, near, whole, from, to), omega (arith, casts, near, whole, from, to)) in
    c.is_date-2.ensures ∙ is_date-test e date)
