-- Later days are in no earlier year or month, so a day of a later month is later.
use Rattle.std.proofs.Common.{inl, inr, arith, ℤ, ◌≤ℤ◌, ◌<ℤ◌}
use Rattle.std.proofs.lemmas.Int.{by_lt_z}
use Rattle.chrono_calendar.specs.Days.{year_of, day_of}
use Rattle.chrono_calendar.specs.Weeks.{iso_year_of, thursday_of_week}
use Rattle.chrono_calendar.specs.MonthMoves.{month_index_of}
use Rattle.chrono_text.proofs.Signed.{signed}
use Rattle.chrono_calendar.proofs.IsoWeeks.{days_from_monday-of, thursday_of_week-monday}
use Rattle.chrono_calendar.proofs.MonthOrder.{day_at-exists, days_in_order}
use Rattle.chrono_calendar.proofs.Order.{earlier_year}

pub year_of-rises : (n m : ℤ) → n ≤ℤ m → year_of n ≤ℤ year_of m
year_of-rises n m le =
    by_lt_z (year_of m) (year_of n) (λ lt. absurd (omega (arith, signed, le, earlier_year m n lt))) (λ ge. ge)

pub month_index_of-rises : (n m : ℤ) → n ≤ℤ m → month_index_of n ≤ℤ month_index_of m
month_index_of-rises n m le =
    elim (days_in_order n m (month_index_of n) (month_index_of m) (day_of n) (day_of m) (day_at-exists n) (day_at-exists m) le) [
      | inl lt ↦ omega (arith, signed, lt)
      | inr same ↦ omega (arith, signed, same.0)
    ]

pub later_month : (n e : ℤ) → month_index_of n <ℤ month_index_of e → n <ℤ e
later_month n e less = by_lt_z n e (λ lt. lt) (λ ge. absurd (omega (arith, signed, less, month_index_of-rises e n ge)))

thursday-rises : (n m : ℤ) → n ≤ℤ m → thursday_of_week n ≤ℤ thursday_of_week m
thursday-rises n m le =
    omega (arith, signed, le, thursday_of_week-monday n, thursday_of_week-monday m, days_from_monday-of n, days_from_monday-of m)

pub iso_year_of-rises : (n m : ℤ) → n ≤ℤ m → iso_year_of n ≤ℤ iso_year_of m
iso_year_of-rises n m le = year_of-rises (thursday_of_week n) (thursday_of_week m) (thursday-rises n m le)
