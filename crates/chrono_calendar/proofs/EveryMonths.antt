-- The laws of the dates that lie every so many months from one.
use Rattle.std.proofs.Common.{◌≡◌, ℕ, suc, ◌*◌, min, Bool, true, false, cond, Option, Some, None, IfSome, refl, sym, ap, ◌∙◌, arith, ℤ, pos, negsuc, ◌+ℤ◌, ◌*ℤ◌, ◌<ℤ◌}
use Rattle.std.proofs.lemmas.Bool.{cond-true}
use borrow.Author.Differences.{up, down}
use Rattle.chrono_units.specs.Years.{is_leap_year, is_year, month_length_in}
use Rattle.chrono_calendar.specs.Days.{IsDate, year_of, month_of, day_of}
use Rattle.chrono_calendar.specs.MonthMoves.{month_index_of, year_of_month_index, day_number_in_month, month_length_of, month_move, LaterMultiplesAreLater}
use Rattle.chrono_calendar.specs.Recurrence.{date_every, IsLeapDay, IsLastOfFebruary}
use Rattle.chrono_text.proofs.Signed.{signed}
use Rattle.chrono_calendar.proofs.Dates.{is_year-test}
use Rattle.chrono_calendar.proofs.MonthOrder.{length_at, before_month, month_index-parts, month_of-range, day_at-exists, day_at-moved}
use Rattle.chrono_calendar.proofs.MonthMoveLaws.{month_move-parts, month_move-LaterMultiplesAreLater, year_of-range}

-- a move by no months stands still
same_month : (n i : ℤ) → IsDate n → i ≡ month_index_of n → cond (is_year (year_of_month_index i)) (Some (day_number_in_month i (day_of n))) None ≡ Some n
same_month n i h e =
    let here = day_at-exists n in
    let there = day_at-moved i (day_of n) here.first in
    let year : is_year (year_of_month_index i) ≡ true = ap (λ j. is_year (year_of_month_index j)) e ∙ ap is_year (month_index-parts (year_of n) (month_of n) (month_of-range n)).0 ∙ is_year-test (year_of n) (year_of-range n h) in
    let same : day_number_in_month i (day_of n) ≡ n = omega (arith, signed, here.number, here.last, there.number, ap before_month e, ap length_at e) in
    cond-true _ _ _ year ∙ ap Some same

pub date_every-start : (n k : ℤ) (i : ℕ) → IsDate n → i ≡ 0 → date_every n k i ≡ Some n
unfolding month_move
date_every-start n k i h e = same_month n (month_index_of n +ℤ k *ℤ pos i) h (ap (λ j. month_index_of n +ℤ k *ℤ pos j) e ∙ omega (arith, signed))

-- the month and the day of the month that it comes to
pub if_every : (o : Option ℤ) (n k : ℤ) (i : ℕ) → o ≡ date_every n k i → IfSome o (λ e. month_index_of e ≡ month_index_of n +ℤ k *ℤ pos i) × IfSome o (λ e. day_of e ≡ min (day_of n) (month_length_of e)) × (pos 0 <ℤ k → IfSome o (LaterMultiplesAreLater n k i))
if_every None n k i h = (tt, tt, λ _. tt)
if_every (Some e) n k i h =
    let parts = month_move-parts n (k *ℤ pos i) e (sym h) in
    (parts.0, parts.1, λ up. month_move-LaterMultiplesAreLater n k i e up (sym h))

-- twelve times a number of months is that number of years
twelve_times : (y : ℤ) (i : ℕ) → (pos 12 *ℤ y) *ℤ pos i ≡ pos 12 *ℤ (y *ℤ pos i)
twelve_times (pos q) i = omega (arith, signed)
twelve_times (negsuc q) i =
    let size : down (pos 12 *ℤ negsuc q) ≡ 12 * suc q = omega (arith, signed) in
    let below : up (pos 12 *ℤ negsuc q) ≡ 0 = omega (arith, signed) in
    omega (arith, signed, ap (λ d. d * up (pos i)) size, ap (λ d. d * up (pos i)) below)

-- whole years from a leap day lead to the last day of February
last_of_february : (leap : Bool) → min 29 (month_length_in leap 2) ≡ cond leap 29 28
last_of_february true = refl
last_of_february false = refl

in_february : (n e years : ℤ) → month_of n ≡ 2 → month_index_of e ≡ month_index_of n +ℤ pos 12 *ℤ years → month_of e ≡ 2
in_february n e years february moved =
    omega (arith, signed, month_of-range e, february, moved)

date_every-leap_day : (n k : ℤ) (i : ℕ) (e years : ℤ) → IsLeapDay n → k ≡ pos 12 *ℤ years → date_every n k i ≡ Some e → IsLastOfFebruary e
date_every-leap_day n k i e years leap whole h =
    let parts = month_move-parts n (k *ℤ pos i) e h in
    let months : k *ℤ pos i ≡ pos 12 *ℤ (years *ℤ pos i) = ap (λ m. m *ℤ pos i) whole ∙ twelve_times years i in
    let february = in_february n e (years *ℤ pos i) leap.0 (parts.0 ∙ ap (λ m. month_index_of n +ℤ m) months) in
    (february, parts.1 ∙ rw (leap.1, february) (last_of_february (is_leap_year (year_of e))))

pub if_leap_day : (o : Option ℤ) (n k : ℤ) (i : ℕ) → o ≡ date_every n k i → IsLeapDay n → (years : ℤ) → k ≡ pos 12 *ℤ years → IfSome o IsLastOfFebruary
if_leap_day None n k i h leap years whole = tt
if_leap_day (Some e) n k i h leap years whole = date_every-leap_day n k i e years leap whole (sym h)
