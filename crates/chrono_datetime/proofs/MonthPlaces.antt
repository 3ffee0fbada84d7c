-- Days by their places in a month, months before and after, and months 400 years on.
use Rattle.std.proofs.Common.{◌≡◌, ℕ, ◌+◌, ◌-◌, ◌%◌, ◌<◌, ◌≤◌, ◌==◌, inl, inr, true, refl, sym, ap, ◌∙◌, arith, ℤ, pos, ◌+ℤ◌, ◌-ℤ◌, ◌≤ℤ◌, ◌<ℤ◌, ap₂}
use Rattle.std.proofs.lemmas.Bool.{agree_below_at, cases_lt, eqb-true}
use Rattle.std.proofs.lemmas.Int.{by_lt_z}
use Rattle.chrono_units.specs.Weekday.{days_from_sunday, weekday_from_sunday}
use Rattle.chrono_units.specs.Years.{IsYear, is_leap_year, month_length}
use Rattle.chrono_naive.specs.Days.{IsCalendarName, year_of, month_of, day_of}
use Rattle.chrono_naive.specs.MonthMoves.{InSameMonth, month_index_of, month_length_of}
use Rattle.chrono_naive.specs.Weeks.{days_from_sunday_of, weekday_of}
use Rattle.chrono_naive.proofs.Cycles.{calendar_name-again}
use Rattle.chrono_naive.proofs.MonthDays.{day_of-bounds, later_in_month, month-days, month-next}
use Rattle.chrono_naive.proofs.MonthOrder.{before_month, day_at-exists, length_at-bounds, month_of-range}
use Rattle.chrono_naive.proofs.MonthLengths.{month_length_in-bounds}
pub use Rattle.chrono_naive.proofs.Rising.{later_month}
use Rattle.chrono_naive.proofs.Rising.{month_index_of-rises}
use Rattle.chrono_naive.proofs.Signed.{signed}

-- two days of a month are as far apart as their places there
pub places : (n d : ℤ) → InSameMonth d n → d +ℤ pos (day_of n) ≡ n +ℤ pos (day_of d)
places n d same =
    let index : month_index_of d ≡ month_index_of n = omega (arith, signed, same.0, same.1) in
    let begin = ap before_month index in
    omega (arith, signed, (day_at-exists n).number, (day_at-exists d).number, begin)

pub place-bounds : (n : ℤ) → (1 ≤ day_of n) × (day_of n ≤ 31)
place-bounds n =
    let here = day_at-exists n in
    (here.first, omega (arith, here.last, length_at-bounds (month_index_of n)))

-- the number of a day's weekday
pub weekday_number : (n : ℤ) → days_from_sunday (weekday_of n) ≡ days_from_sunday_of n
weekday_number n =
    eqb-true _ _ (agree_below_at (λ k. days_from_sunday (weekday_from_sunday k) == k) (λ k. true) 7 (days_from_sunday_of n) refl (omega (arith, signed)))

pub weekday_small : (n : ℤ) → days_from_sunday (weekday_of n) < 7
weekday_small n = omega (arith, signed, weekday_number n)

-- the weekday of a day, by its place in the month
pub weekday_at : (n d : ℤ) (before : ℕ) → InSameMonth d n → before ≡ (days_from_sunday (weekday_of n) + 35 - day_of n) % 7 → (day_of d + before) % 7 ≡ days_from_sunday (weekday_of d)
weekday_at n d before same is =
    omega (arith, signed, weekday_number n, weekday_number d, places n d same, place-bounds n, place-bounds d)

-- of a day before the first of a month, and of one after the last, the month is another
pub month_before_first : (d e : ℤ) → day_of e ≡ 1 → d <ℤ e → month_index_of d <ℤ month_index_of e
month_before_first d e first less =
    by_lt_z (month_index_of d) (month_index_of e) (λ lt. lt) (λ ge.
    let rises = month_index_of-rises d e (omega (arith, signed, less)) in
    let same : InSameMonth d e = (omega (arith, signed, rises, ge, month_of-range d, month_of-range e), omega (arith, signed, rises, ge, month_of-range d, month_of-range e)) in
    let within = (month-days e d).0 same in
    absurd (omega (arith, signed, within.0, first, less)))

pub month_after_last : (d e : ℤ) → day_of e ≡ month_length_of e → e <ℤ d → month_index_of e <ℤ month_index_of d
month_after_last d e last less =
    by_lt_z (month_index_of e) (month_index_of d) (λ lt. lt) (λ ge.
    let rises = month_index_of-rises e d (omega (arith, signed, less)) in
    let same : InSameMonth d e = (omega (arith, signed, rises, ge, month_of-range d, month_of-range e), omega (arith, signed, rises, ge, month_of-range d, month_of-range e)) in
    let within = (month-days e d).0 same in
    absurd (omega (arith, signed, within.1, last, less)))

-- of two days of a month the later has the higher place
pub place-order : (n d e : ℤ) → InSameMonth d n → InSameMonth e n → d <ℤ e → day_of d < day_of e
place-order n d e same other less = omega (arith, signed, places n d same, places n e other, less)

-- between two days of a month lie days of that month
pub between_later : (n d e : ℤ) → n ≤ℤ d → d ≤ℤ e → InSameMonth e n → InSameMonth d n
between_later n d e low high same =
    let from = month_index_of-rises n d low in
    let to = month_index_of-rises d e high in
    (omega (arith, signed, from, to, same.0, same.1, month_of-range n, month_of-range d), omega (arith, signed, from, to, same.0, same.1, month_of-range n, month_of-range d))

pub between_earlier : (n d e : ℤ) → e ≤ℤ d → d ≤ℤ n → InSameMonth e n → InSameMonth d n
between_earlier n d e low high same =
    let from = month_index_of-rises e d low in
    let to = month_index_of-rises d n high in
    (omega (arith, signed, from, to, same.0, same.1, month_of-range n, month_of-range d), omega (arith, signed, from, to, same.0, same.1, month_of-range n, month_of-range d))

-- a place that a month has not lies behind all of its days
pub past_month : (n d : ℤ) (k : ℕ) → IsYear (year_of n) → InSameMonth d n → 1 ≤ k → (IsYear (year_of n) × IsCalendarName (year_of n) (month_of n) k → ⊥) → day_of d < k
past_month n d k year same some nameless =
    let lengths : month_length_of d ≡ month_length_of n = ap₂ month_length same.0 same.1 in
    elim (cases_lt (day_of d) k) [
      | inl lt ↦ lt
      | inr le ↦ absurd (nameless (year, (month_of-range n, (some, omega (arith, le, lengths, day_of-bounds d)))))
    ]

-- the last day of a month that was named by its first
pub month_before : (n f e : ℤ) → InSameMonth e f → year_of f ≡ year_of n → month_of f < month_of n → e <ℤ n
month_before n f e same year less =
    later_month e n (omega (arith, signed, same.0, same.1, year, less, month_of-range f))

pub year_before : (n f e : ℤ) → InSameMonth e f → year_of f ≡ year_of n -ℤ pos 1 → e <ℤ n
year_before n f e same year =
    later_month e n (omega (arith, signed, same.0, year, month_of-range n, month_of-range e))

pub last_place : (f e : ℤ) → InSameMonth e f → day_of e ≡ month_length_of f → day_of e ≡ month_length_of e
last_place f e same day = day ∙ sym (ap₂ month_length same.0 same.1)

-- each month has a first day
pub first_day_exists : (y : ℤ) (m : ℕ) → IsYear y → 1 ≤ m → m < 13 → IsYear y × IsCalendarName y m 1
first_day_exists y m year low high = (year, ((low, omega (arith, high)), (omega arith, omega (arith, month_length_in-bounds (is_leap_year y) m))))

-- the last year has no next one, nor the first one before it
pub last_year : (n d : ℤ) → IsYear (year_of n) → (IsYear (year_of n +ℤ pos 1) → ⊥) → IsYear (year_of d) → n ≤ℤ d → year_of d ≡ year_of n
last_year n d year past other low =
    let rises = month_index_of-rises n d low in
    by_lt_z (year_of n) (year_of d)
    (λ lt. absurd (past (omega (arith, signed, year), omega (arith, signed, lt, other))))
    (λ ge. omega (arith, signed, ge, rises, month_of-range n, month_of-range d))

pub first_year : (n d : ℤ) → IsYear (year_of n) → (IsYear (year_of n -ℤ pos 1) → ⊥) → IsYear (year_of d) → d ≤ℤ n → year_of d ≡ year_of n
first_year n d year past other high =
    let rises = month_index_of-rises d n high in
    by_lt_z (year_of d) (year_of n)
    (λ lt. absurd (past (omega (arith, signed, lt, other), omega (arith, signed, year))))
    (λ ge. omega (arith, signed, ge, rises, month_of-range n, month_of-range d))

-- a month is not longer than one whose days have the same places
pub not_longer : (n m : ℤ) → day_of m ≡ day_of n → ((k : ℕ) → day_of (m +ℤ pos k) ≡ day_of (n +ℤ pos k)) → month_length_of m ≤ month_length_of n
not_longer n m place again =
    let bounds = day_of-bounds n in
    let behind = month_length_of n - day_of n + 1 in
    let next = month-next n (n +ℤ pos behind) (omega (arith, signed, bounds)) in
    elim (cases_lt (month_length_of n) (month_length_of m)) [
      | inl longer ↦
          let within = later_in_month m (m +ℤ pos behind) behind refl (omega (arith, place, bounds, longer)) in
          absurd (omega (arith, within.day, again behind, next.1, place, bounds))
      | inr le ↦ le
    ]

pub month_length_of-again : (n m : ℤ) → m ≡ n +ℤ pos 146_097 → month_length_of m ≡ month_length_of n
month_length_of-again n m e =
    let name = calendar_name-again n m e in
    let later : (k : ℕ) → day_of (m +ℤ pos k) ≡ day_of (n +ℤ pos k) = λ k. (calendar_name-again (n +ℤ pos k) (m +ℤ pos k) (omega (arith, signed, e))).1 in
    omega (arith, not_longer n m name.1 later, not_longer m n (sym name.1) (λ k. sym (later k)))
