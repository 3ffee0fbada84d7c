use Rattle.std.proofs.Common.{◌≡◌, ◌∙◌, ℤ, pos, neg_ℤ, ◌+ℤ◌, ◌-ℤ◌, ◌≤ℤ◌, ◌<ℤ◌, arith, ap, rules, subst, sym, of_z, to_z, w32}
use Rattle.std.proofs.lemmas.Bool.{and_parts}
use Rattle.std.proofs.lemmas.Int.{to_z-of_z}
use Rattle.chrono_units.specs.Years.{IsYear}
use Rattle.chrono_calendar.specs.Days.{is_date, day_of}
use Rattle.chrono_calendar.specs.MonthMoves.{day_number_in_month, month_index_of, year_of_month_index}
use Rattle.chrono_calendar.proofs.Dates.{is_date-fact}
use Rattle.chrono_calendar.proofs.Signed.{casts, signed}
use Rattle.chrono_stored.proofs.MonthsFromMarch.{month_move-day}
use Rattle.chrono_columns.proofs.Entries.{months-there, months-none}
use Rattle.chrono_calendar.proofs.Moves.{month_move-None}
use Rattle.chrono_columns.proofs.MonthTests.{near_month}
use Rattle.chrono_columns.proofs.months.months_later.Goals as goal

-- the month that is reached, as it is counted here
sum : (b k : ℤ) → pos 0 ≤ℤ b → b <ℤ pos 7_000_000 → neg_ℤ (pos 7_000_000) ≤ℤ k → k ≤ℤ pos 7_000_000 → to_z w32 (of_z w32 (to_z w32 (of_z w32 b) +ℤ to_z w32 (of_z w32 k))) ≡ b +ℤ k
sum b k low high least most = omega (arith, casts)

pub returns-then-is_date-is_month : goal.returns-then-is_date-is_month
returns-then-is_date-is_month c =
    let n = c.args.number in
    let here = to_z-of_z w32 n c.ranges.number in
    let both = and_parts c.is_date.result c.is_month.result c.if-is_date-is_month.true in
    let from = is_date-fact n (sym (sym both.0 ∙ c.is_date.ensures ∙ ap (λ z. is_date z) here)) in
    let near = to_z-of_z w32 c.nearest_date.result (search rules) ∙ (rw here at c.nearest_date.ensures.same) from in
    let b = c.month_and_day-begun.result.0 in
    let d = c.month_and_day-begun.result.1 in
    let k = c.nearest_count.result in
    let months = c.month_and_day-begun.ensures in
    let begun = months.month ∙ ap (λ z. month_index_of z +ℤ pos 3_148_798) near in
    let day = months.day ∙ ap (λ z. day_of z) near in
    let whole = sum b k months.in_range.0 months.in_range.1 c.nearest_count.ensures.in_range.0 c.nearest_count.ensures.in_range.1 in
    let year : IsYear (year_of_month_index (b +ℤ k -ℤ pos 3_148_798)) = rw whole at (c.is_month.ensures.yes both.1) in
    let within = near_month b k months.in_range.0 months.in_range.1 year in
    let count = (rw (to_z-of_z w32 c.args.months c.ranges.months) at c.nearest_count.ensures.inner) within.0 within.1 in
    let index = (rw whole at c.nearest_month.ensures.same) year in
    let i = pos c.nearest_month.result -ℤ pos 3_148_798 in
    let target : i ≡ month_index_of n +ℤ c.args.months = omega (arith, signed, index, begun, count) in
    let move = month_move-day n c.args.months i d target day c.nearest_month.ensures.in_range in
    to_z-of_z w32 c.date_in_month-date.result (search rules) ∙ c.date_in_month-date.ensures
    ∙ months-there c.args.months n (day_number_in_month i d) from move

pub returns-else-is_date-is_month : goal.returns-else-is_date-is_month
returns-else-is_date-is_month c =
    let n = c.args.number in
    let here = to_z-of_z w32 n c.ranges.number in
    let b = c.month_and_day-begun.result.0 in
    let k = c.nearest_count.result in
    let m = c.args.months in
    let months = c.month_and_day-begun.ensures in
    let whole = sum b k months.in_range.0 months.in_range.1 c.nearest_count.ensures.in_range.0 c.nearest_count.ensures.in_range.1 in
    months-none m n c.is_date.result c.is_month.result c.if-is_date-is_month.false (c.is_date.ensures ∙ ap (λ z. is_date z) here)
    (λ from no.
    let near = to_z-of_z w32 c.nearest_date.result (search rules) ∙ (rw here at c.nearest_date.ensures.same) from in
    let begun = months.month ∙ ap (λ z. month_index_of z +ℤ pos 3_148_798) near in
    month_move-None n m (λ year.
    let Y : ℤ → Type 0 = λ z. IsYear (year_of_month_index z) in
    let start : month_index_of n +ℤ m ≡ b +ℤ m -ℤ pos 3_148_798 = omega (arith, signed, begun) in
    let there = subst Y start year in
    let within = near_month b m months.in_range.0 months.in_range.1 there in
    let count = (rw (to_z-of_z w32 m c.ranges.months) at c.nearest_count.ensures.same) (omega (arith, signed, within)) (omega (arith, signed, within)) in
    (rw (whole ∙ ap (λ z. b +ℤ z) count) at (c.is_month.ensures.no no)) there))
