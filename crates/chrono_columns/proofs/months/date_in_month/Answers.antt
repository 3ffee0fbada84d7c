use Rattle.std.proofs.Common.{◌≡◌, ◌-◌, arith, refl, rules, of_z, to_z, w32, pos, ◌+ℤ◌}
use Rattle.std.proofs.lemmas.Int.{to_z-of_z}
use Rattle.chrono_units.specs.Years.{year_length}
use Rattle.chrono_calendar.proofs.Signed.{casts, signed}
use Rattle.chrono_calendar.proofs.Years.{days_before_year-next}
use Rattle.chrono_stored.proofs.MonthsFromMarch.{number_within-month}
use Rattle.chrono_columns.proofs.months.date_in_month.Goals as goal

pub overflow_sub-end : goal.overflow_sub-end
overflow_sub-end c =
    let y = c.year_after-year.result in
    let same : to_z w32 (of_z w32 y) ≡ y = to_z-of_z w32 y (search rules) in
    let following : to_z w32 (of_z w32 (to_z w32 (of_z w32 y) +ℤ pos 1)) ≡ y +ℤ pos 1 = omega (arith, casts, c.year_after-year.ensures, c.requires.few) in
    let from = rw same at c.days_to_year-start.ensures.value in
    let to = rw following at c.days_to_year-end.ensures.value in
    omega (arith, casts, from, to, days_before_year-next y (y +ℤ pos 1) refl)

pub returns : goal.returns
returns c =
    let y = c.year_after-year.result in
    let same : to_z w32 (of_z w32 y) ≡ y = to_z-of_z w32 y (search rules) in
    let following : to_z w32 (of_z w32 (to_z w32 (of_z w32 y) +ℤ pos 1)) ≡ y +ℤ pos 1 = omega (arith, casts, c.year_after-year.ensures, c.requires.few) in
    let from = rw same at c.days_to_year-start.ensures.value in
    let to = rw following at c.days_to_year-end.ensures.value in
    let next = days_before_year-next y (y +ℤ pos 1) refl in
    let length : c.days_to_year-end.result - c.days_to_year-start.result ≡ year_length y = omega (arith, signed, from, to, next) in
    let wanted = number_within-month c.args.month c.args.day c.days_to_year-start.result y (omega (arith, casts, c.year_after-year.ensures)) from in
    omega (arith, casts, wanted, length, from, to, c.min.ensures, c.min-place.ensures, c.days_before_month.ensures, c.days_before_month-next.ensures, next)
