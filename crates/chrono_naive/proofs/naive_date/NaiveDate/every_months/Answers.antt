use Rattle.std.proofs.Common.{◌≡◌, ℕ, ℤ, ◌∙◌, ap, ◌*ℤ◌, pos, to_z, of_z, FitsSigned, w32, w64, arith, ◌^◌, ◌<◌, lit<}
use Rattle.std.proofs.lemmas.Int.{to_z-of_z, fits_signed_mul}
use Rattle.chrono_calendar.specs.MonthMoves.{month_move}
use Rattle.chrono_calendar.proofs.Signed.{casts}
use Rattle.chrono_calendar.proofs.EveryMonths.{date_every-start, if_every, if_leap_day}
use Rattle.chrono_calendar.proofs.MonthMoveLaws.{month_move-exists}
use Rattle.chrono_calendar.proofs.NamedDates.{IsDate-year}
use Rattle.chrono_naive.proofs.naive_date.NaiveDate.every_months.Goals as goal

-- the months as the code multiplies them
months : (k a b : ℤ) (i : ℕ) → FitsSigned w32 k → i < 2 ^ 32 → a ≡ to_z w32 (of_z w32 k) → b ≡ pos i → to_z w64 (of_z w64 (to_z w64 (of_z w64 a) *ℤ to_z w64 (of_z w64 b))) ≡ k *ℤ pos i
months k a b i h j e f =
    let factor : to_z w64 (of_z w64 a) ≡ k = omega (arith, casts) in
    let times : to_z w64 (of_z w64 b) ≡ pos i = omega (arith, casts) in
    let fits : FitsSigned w64 (k *ℤ pos i) = fits_signed_mul w64 k (pos i) (2 ^ 31) 4_294_967_295 (omega (arith, casts)) (omega (arith, casts)) (lit< tt) in
    rw (factor, times) (to_z-of_z w64 (k *ℤ pos i) fits)

pub returns-clause-date : goal.returns-clause-date
returns-clause-date c =
    c.moved_by_months.ensures.date
    ∙ ap (month_move c.args.self) (months c.args.k c.from.result c.from-2.result c.args.i c.ranges.k (omega (arith, c.ranges.i)) c.from.ensures c.from-2.ensures)

pub returns-clause-exists : goal.returns-clause-exists
returns-clause-exists c = month_move-exists c.moved_by_months.result c.args.self (c.args.k *ℤ pos c.args.i) (returns-clause-date c)

pub returns-clause-start : goal.returns-clause-start
returns-clause-start c =
    λ none. returns-clause-date c ∙ date_every-start c.args.self c.args.k c.args.i (IsDate-year c.args.self c.moved_by_months.ensures.in_range) none

pub returns-clause-month : goal.returns-clause-month
returns-clause-month c = (if_every c.moved_by_months.result c.args.self c.args.k c.args.i (returns-clause-date c)).0

pub returns-clause-day : goal.returns-clause-day
returns-clause-day c = (if_every c.moved_by_months.result c.args.self c.args.k c.args.i (returns-clause-date c)).1

pub returns-clause-later : goal.returns-clause-later
returns-clause-later c = (if_every c.moved_by_months.result c.args.self c.args.k c.args.i (returns-clause-date c)).2

pub returns-clause-leap_day : goal.returns-clause-leap_day
returns-clause-leap_day c = if_leap_day c.moved_by_months.result c.args.self c.args.k c.args.i (returns-clause-date c)
