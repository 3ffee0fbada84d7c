-- The weekdays around a day.
use Rattle.std.proofs.Common.{◌≡◌, ℕ, zero, suc, ◌+◌, ◌*◌, ◌%◌, ◌<◌, refl, sym, ap, ◌∙◌, arith, ℤ, pos, ◌+ℤ◌, ◌-ℤ◌, ◌≤ℤ◌, ◌<ℤ◌}
use Rattle.chrono_units.specs.declared.weekday.Weekday.{Weekday}
use Rattle.chrono_units.specs.Weekday.{days_from_monday, days_since, next_weekday, previous_weekday}
use Rattle.chrono_units.specs.WeekdaySet.{weekday_after}
use Rattle.chrono_units.proofs.WeekdayCycle.{days_from_monday-lt, days_from_monday-weekday_from_monday}
use Rattle.chrono_calendar.specs.Weeks.{days_from_sunday_of, weekday_of, week_first_of}
use Rattle.chrono_text.proofs.Signed.{signed}
use Rattle.chrono_calendar.proofs.IsoWeeks.{days_from_monday-of, same_weekday}

-- the weekday of the next day, and of the day before
days_from_monday-next : (d : Weekday) → days_from_monday (next_weekday d) ≡ (days_from_monday d + 1) % 7
days_from_monday-next d = days_from_monday-weekday_from_monday ((days_from_monday d + 1) % 7) (omega arith)

pub weekday_of-next : (n m : ℤ) → m ≡ n +ℤ pos 1 → weekday_of m ≡ next_weekday (weekday_of n)
weekday_of-next n m e =
    same_weekday m (next_weekday (weekday_of n)) (omega (arith, signed, days_from_monday-of n, days_from_monday-next (weekday_of n)))

days_from_monday-previous : (d : Weekday) → days_from_monday (previous_weekday d) ≡ (days_from_monday d + 6) % 7
days_from_monday-previous d = days_from_monday-weekday_from_monday ((days_from_monday d + 6) % 7) (omega arith)

pub weekday_of-previous : (n m : ℤ) → m ≡ n -ℤ pos 1 → weekday_of m ≡ previous_weekday (weekday_of n)
weekday_of-previous n m e =
    same_weekday m (previous_weekday (weekday_of n)) (omega (arith, signed, days_from_monday-of n, days_from_monday-previous (weekday_of n)))

-- the weekday some days later
pub weekday_of-after : (n m : ℤ) (k : ℕ) → m ≡ n +ℤ pos k → weekday_of m ≡ weekday_after (weekday_of n) k
weekday_of-after n m zero e = let same : m ≡ n = omega (arith, signed) in ap weekday_of same
weekday_of-after n m (suc k) e =
    weekday_of-next (n +ℤ pos k) m (omega (arith, signed)) ∙ ap next_weekday (weekday_of-after n (n +ℤ pos k) k refl)

-- a week later the weekday comes again, and so after any number of weeks
pub weekday_of-week : (n m : ℤ) → m ≡ n +ℤ pos 7 → weekday_of m ≡ weekday_of n
weekday_of-week n m e = same_weekday m (weekday_of n) (omega (arith, signed, days_from_monday-of n))

pub weekday_of-weeks : (n m : ℤ) (w : ℕ) → m ≡ n +ℤ pos (7 * w) → weekday_of m ≡ weekday_of n
weekday_of-weeks n m w e = same_weekday m (weekday_of n) (omega (arith, signed, days_from_monday-of n))

-- from one weekday on to the other there are as many days as between the days, but for whole weeks
pub days_since-later : (n m : ℤ) (k : ℕ) → m ≡ n +ℤ pos k → days_since (weekday_of m) (weekday_of n) ≡ k % 7
days_since-later n m k e = omega (arith, signed, days_from_monday-of n, days_from_monday-of m)

-- as many days back as the weekday start lies before that of n, the weekday is start
pub weekday_of-start : (n m : ℤ) (start : Weekday) → m ≡ n -ℤ pos (days_since (weekday_of n) start) → weekday_of m ≡ start
weekday_of-start n m start e =
    same_weekday m start (omega (arith, signed, days_from_monday-of n, days_from_monday-lt start))

days_since-bound : (d e : Weekday) → days_since d e < 7
days_since-bound d e = omega arith

-- and of the seven days up to n no other has that weekday
pub week_first_of-place : (n m : ℤ) (start : Weekday) → m ≡ week_first_of n start → (weekday_of m ≡ start) × (m ≤ℤ n) × (n <ℤ (m +ℤ pos 7))
week_first_of-place n m start e = (
  weekday_of-start n m start e,
  omega (arith, signed),
  omega (arith, signed, days_since-bound (weekday_of n) start),
)

pub week_first_of-only : (n m : ℤ) (start : Weekday) → weekday_of m ≡ start → m ≤ℤ n → n <ℤ (m +ℤ pos 7) → m ≡ week_first_of n start
week_first_of-only n m start e low high =
    let place : days_from_monday start ≡ (days_from_sunday_of m + 6) % 7 = ap days_from_monday (sym e) ∙ days_from_monday-of m in
    omega (arith, signed, days_from_monday-of n, place)
