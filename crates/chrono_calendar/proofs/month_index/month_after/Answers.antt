use Rattle.std.proofs.Common.{◌≡◌, ℕ, ℤ, pos, neg_ℤ, refl, ◌/◌, ◌<◌, ◌+ℤ◌, arith, unsigned_abs, to_z, of_z, w32, w64}
use Rattle.chrono_calendar.specs.MonthMoves.{month_index, year_of_month_index}
use Rattle.chrono_text.proofs.Signed.{casts}
use Rattle.chrono_calendar.proofs.Moves.{month_index-shifted, year_of_month_index-range, year_of_month_index-below, year_of_month_index-above}
use Rattle.chrono_calendar.proofs.month_index.month_after.Goals as goal

-- the months since the first of the library's
abbrev target : goal.Else-moved-ge-MONTHS → ℕ
target c = unsigned_abs (to_z w64 (of_z w64 c.in_ok-moved.moved))

abbrev index : goal.Else-moved-ge-MONTHS → ℤ
index c = month_index c.args.year c.args.month +ℤ c.args.k

target-shifted : (c : goal.Else-moved-ge-MONTHS) → pos (target c) ≡ index c +ℤ pos 3_145_716
target-shifted c = omega (arith, casts, c.from.ensures, c.in_ok-moved.ensures)

target-bound : (c : goal.Else-moved-ge-MONTHS) → target c < 6_291_432
target-bound c = omega (arith, casts, c.if-moved-ge-MONTHS.false, c.if-moved-lt0.false)

year_cast : (y : ℤ) (t : ℕ) → y ≡ pos (t / 12) +ℤ neg_ℤ (pos 262_143) → t < 6_291_432 → to_z w32 (of_z w32 (to_z w32 (t / 12) +ℤ neg_ℤ (pos 262_143))) ≡ y
year_cast y t e h = omega (arith, casts)

pub returns : goal.returns
returns c =
    let parts = month_index-shifted (index c) (target c) (target-shifted c) in (
      year_of_month_index-range (year_of_month_index (index c)) (target c) parts.0 (target-bound c),
      rw (year_cast (year_of_month_index (index c)) (target c) parts.0 (target-bound c), parts.1) refl,
    )

pub returns-then-moved-lt0 : goal.returns-then-moved-lt0
returns-then-moved-lt0 c =
    year_of_month_index-below (month_index c.args.year c.args.month +ℤ c.args.k) (omega (arith, casts, c.from.ensures, c.in_ok-moved.ensures, c.if-moved-lt0.true))

pub returns-then-moved-ge-MONTHS : goal.returns-then-moved-ge-MONTHS
returns-then-moved-ge-MONTHS c =
    year_of_month_index-above (month_index c.args.year c.args.month +ℤ c.args.k) (omega (arith, casts, c.from.ensures, c.in_ok-moved.ensures, c.if-moved-ge-MONTHS.true))

pub returns-in_err-moved : goal.returns-in_err-moved
returns-in_err-moved c = rw c.from_residual.ensures (λ h. c.in_err-moved.ensures (omega (arith, casts, c.from.ensures, h)))
