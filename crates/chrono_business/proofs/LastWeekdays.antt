-- The last day of a month with a weekday.
use Rattle.std.proofs.Common.{◌≡◌, ℕ, Some, ◌∙◌, arith, ℤ, ◌≤ℤ◌}
use Rattle.std.proofs.lemmas.Int.{by_lt_z}
use Rattle.chrono_datetime.specs.declared.Weekday.{Weekday}
use Rattle.chrono_datetime.specs.Days.{month_of, year_of}
use Rattle.chrono_datetime.specs.MonthMoves.{InSameMonth, month_last_of}
use Rattle.chrono_datetime.specs.Weeks.{date_of_last_weekday, weekday_of}
use Rattle.chrono_datetime.proofs.LastWeekdays.{last_weekday-is}
use Rattle.chrono_datetime.proofs.Signed.{signed}
use Rattle.chrono_datetime.proofs.MonthDays.{month-days}
use Rattle.chrono_datetime.proofs.NamedDates.{date_of_ymd-name}
use Rattle.chrono_datetime.proofs.WeekDays.{week_first_of-only}

pub last_weekday-month : (y e : ℤ) (m : ℕ) (weekday : Weekday) → date_of_last_weekday y m weekday ≡ Some e → (year_of e ≡ y) × (month_of e ≡ m)
last_weekday-month y e m weekday is = let (first, name, it) = last_weekday-is y e m weekday is in (it.year, it.month)

pub last_weekday-weekday : (y e : ℤ) (m : ℕ) (weekday : Weekday) → date_of_last_weekday y m weekday ≡ Some e → weekday_of e ≡ weekday
last_weekday-weekday y e m weekday is = let (first, name, it) = last_weekday-is y e m weekday is in it.on

pub last_weekday-last : (y e f : ℤ) (m : ℕ) (weekday : Weekday) → date_of_last_weekday y m weekday ≡ Some e → InSameMonth f e → weekday_of f ≡ weekday → f ≤ℤ e
last_weekday-last y e f m weekday is month on =
    let (first, name, it) = last_weekday-is y e m weekday is in
    let named = date_of_ymd-name first y m 1 name in
    let end = ((month-days first f).0 (month.0 ∙ it.year ∙ named.0, month.1 ∙ it.month ∙ named.1)).1 in
    by_lt_z e f
    (λ lt.
    let again = week_first_of-only (month_last_of first) f weekday on end (omega (arith, signed, it.late, lt)) in
    let here = week_first_of-only (month_last_of first) e weekday it.on it.within it.late in
    omega (arith, signed, again, here))
    (λ ge. ge)
