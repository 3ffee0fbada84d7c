use Rattle.std.proofs.Common.{◌≡◌, ℕ, ℤ, ◌+ℤ◌, ap, ◌∙◌, arith, to_z, of_z, w32, w64, FitsSigned}
use Rattle.std.specs.Option.{option_map}
use Rattle.chrono_units.specs.Years.{IsYear}
use Rattle.chrono_units.proofs.Years.{year_fits}
use Rattle.chrono_calendar.specs.MonthMoves.{month_index, month_index_of, year_of_month_index, month_of_month_index}
use Rattle.chrono_calendar.specs.Days.{year_of, month_of}
use Rattle.chrono_text.proofs.Signed.{casts}
use Rattle.chrono_calendar.proofs.Moves.{month_move-None, month_move-same_day, month_move-ymd}
use Rattle.chrono_calendar.proofs.form.DayForm.move_months.Goals as goal

-- the index of the target month as the code has it
index : (n y k : ℤ) (m : ℕ) → FitsSigned w64 k → y ≡ year_of n → IsYear (year_of n) → m ≡ month_of n → month_index (to_z w32 (of_z w32 y)) m +ℤ to_z w64 (of_z w64 k) ≡ month_index_of n +ℤ k
index n y k m f e r h = omega (arith, casts)

pub returns-in_err-year : goal.returns-in_err-year
returns-in_err-year g c =
    let n = g.Self.DayForm.number c.args.self in
    let same = index n c.year_month_day-year.result.0 c.args.k c.year_month_day-year.result.1 c.ranges.k c.year_month_day-year.ensures.year c.year_month_day-year.ensures.in_range c.year_month_day-year.ensures.month in
    ap (option_map g.Self.DayForm.number) c.from_residual.ensures ∙ month_move-None n c.args.k (λ h. c.in_err-year.ensures (rw same h))

year_cast : (y z : ℤ) → y ≡ z → IsYear z → to_z w32 (of_z w32 y) ≡ z
year_cast y z e h = ap (λ x. to_z w32 (of_z w32 x)) e ∙ year_fits z h

pub returns-in-Some : goal.returns-in-Some
returns-in-Some g c =
    let n = g.Self.DayForm.number c.args.self in
    let same = index n c.year_month_day-year.result.0 c.args.k c.year_month_day-year.result.1 c.ranges.k c.year_month_day-year.ensures.year c.year_month_day-year.ensures.in_range c.year_month_day-year.ensures.month in
    let found = rw same at c.in_ok-year.ensures in
    let year = year_cast c.in_ok-year.year (year_of_month_index (month_index_of n +ℤ c.args.k)) (ap (λ (p : ℤ × ℕ). p.0) found.1) found.0 in
    let month : c.in_ok-year.month ≡ month_of_month_index (month_index_of n +ℤ c.args.k) = ap (λ (p : ℤ × ℕ). p.1) found.1 in
    month_move-same_day n c.args.k _ _ _ _ year month c.year_month_day-year.ensures.day c.in-Some.ensures

pub returns : goal.returns
returns g c =
    let n = g.Self.DayForm.number c.args.self in
    let same = index n c.year_month_day-year.result.0 c.args.k c.year_month_day-year.result.1 c.ranges.k c.year_month_day-year.ensures.year c.year_month_day-year.ensures.in_range c.year_month_day-year.ensures.month in
    let found = rw same at c.in_ok-year.ensures in
    let year = year_cast c.in_ok-year.year (year_of_month_index (month_index_of n +ℤ c.args.k)) (ap (λ (p : ℤ × ℕ). p.0) found.1) found.0 in
    let month : c.in_ok-year.month ≡ month_of_month_index (month_index_of n +ℤ c.args.k) = ap (λ (p : ℤ × ℕ). p.1) found.1 in
    c.from_ymd-2.ensures ∙ month_move-ymd n c.args.k _ _ _ year month (rw c.year_month_day-year.ensures.day at c.day_within.ensures)
