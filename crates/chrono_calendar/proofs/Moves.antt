-- A move by months, as the code makes it: from the months since the first of the library's to the date in the target month.
use Rattle.std.proofs.Common.{Some, ◌≡◌, ℕ, ◌+◌, ◌/◌, ◌%◌, ◌<◌, ◌&&◌, min, None, refl, sym, ◌∙◌, arith, ℤ, pos, neg_ℤ, ◌+ℤ◌, ◌≤ℤ◌, ◌<ℤ◌}
use Rattle.std.proofs.lemmas.Bool.{and_parts}
use Rattle.std.specs.Cmp.Derive.{both_true}
use Rattle.chrono_units.specs.Years.{is_leap_year, is_year, IsYear, month_length}
use Rattle.chrono_calendar.specs.Days.{IsCalendarName, is_calendar_name, date_of_ymd, day_of}
use Rattle.chrono_calendar.specs.MonthMoves.{year_of_month_index, month_of_month_index, month_index_of, day_number_in_month, month_move}
use Rattle.chrono_text.proofs.Signed.{signed}
use Rattle.chrono_calendar.proofs.Months.{month_length_in-bounds}
use Rattle.chrono_calendar.proofs.Dates.{is_year-fact, is_calendar_name-test}
use Rattle.chrono_calendar.proofs.NamedDates.{None-cond, same_test, calendar_name-exists, date_of_ymd-name}
use Rattle.chrono_calendar.proofs.MonthOrder.{month_of_month_index-bounds, day_at-exists}

-- the year and the month of an index, from the months since the first of the library's
pub month_index-shifted : (i : ℤ) (t : ℕ) → pos t ≡ i +ℤ pos 3_145_716 → (year_of_month_index i ≡ pos (t / 12) +ℤ neg_ℤ (pos 262_143)) × (month_of_month_index i ≡ t % 12 + 1)
month_index-shifted i t e = (omega (arith, signed), omega (arith, signed))

pub year_of_month_index-range : (y : ℤ) (t : ℕ) → y ≡ pos (t / 12) +ℤ neg_ℤ (pos 262_143) → t < 6_291_432 → IsYear y
year_of_month_index-range y t e h = (omega (arith, signed), omega (arith, signed))

-- a month before the first of the library's, and one after the last, is in no year of the library
pub year_of_month_index-below : (i : ℤ) → (i +ℤ pos 3_145_716) <ℤ pos 0 → IsYear (year_of_month_index i) → ⊥
year_of_month_index-below i h year = omega (arith, signed, h, year.0)

pub year_of_month_index-above : (i : ℤ) → pos 6_291_432 ≤ℤ (i +ℤ pos 3_145_716) → IsYear (year_of_month_index i) → ⊥
year_of_month_index-above i h year = omega (arith, signed, h, year.1)

-- no move to a year that the library has not
pub month_move-None : (n k : ℤ) → (IsYear (year_of_month_index (month_index_of n +ℤ k)) → ⊥) → None ≡ month_move n k
unfolding month_move
month_move-None n k h =
    let y = year_of_month_index (month_index_of n +ℤ k) in
    None-cond (is_year y) (Some (day_number_in_month (month_index_of n +ℤ k) (day_of n))) (λ t. h (is_year-fact y t))

-- the day of the target month exists, so the move comes to the date with that name
pub month_move-ymd : (n k y : ℤ) (m d : ℕ) → y ≡ year_of_month_index (month_index_of n +ℤ k) → m ≡ month_of_month_index (month_index_of n +ℤ k) → d ≡ min (day_of n) (month_length y m) → date_of_ymd y m d ≡ month_move n k
unfolding month_move date_of_ymd
month_move-ymd n k y m d e f g =
    let month = month_of_month_index-bounds (month_index_of n +ℤ k) in
    let first = (day_at-exists n).first in
    let exists : IsCalendarName y m d = ((omega (arith, month), omega (arith, month)), (omega (arith, month_length_in-bounds (is_leap_year y) m), omega arith)) in
    let test = is_calendar_name-test y m d exists in
    let same : (is_year y && is_calendar_name y m d) ≡ is_year y = same_test (is_year y && is_calendar_name y m d) (is_year y) (λ t. (and_parts (is_year y) (is_calendar_name y m d) t).0) (λ t. both_true t test) in
    rw (same, g, f, e) refl

-- if the target month has that day, the move comes to it
pub month_move-same_day : (n k y : ℤ) (m d : ℕ) (x : ℤ) → y ≡ year_of_month_index (month_index_of n +ℤ k) → m ≡ month_of_month_index (month_index_of n +ℤ k) → d ≡ day_of n → Some x ≡ date_of_ymd y m d → Some x ≡ month_move n k
month_move-same_day n k y m d x e f g found =
    let name = date_of_ymd-name x y m d (sym found) in
    let exists : IsCalendarName y m d = rw (name.0, name.1, name.2) (calendar_name-exists x) in
    found ∙ month_move-ymd n k y m d e f (omega (arith, g, exists.1.1))
