-- What lies too far for a machine word is no date, and how many years dates are apart.
use Rattle.std.proofs.Common.{◌≡◌, ◌↔◌, IsSome, ℕ, ◌-◌, ◌<◌, ◌≤◌, ◌==◌, ◌&&◌, nat_le, Bool, true, false, cond, Option, Some, None, refl, arith, ℤ, ◌-ℤ◌, int_lt, length, slice_get, unsigned_abs}
use Rattle.std.proofs.lemmas.Option.{slice_get_past}
use Rattle.std.proofs.lemmas.List.Sums.{length-filter, count_by-le-length}
use Rattle.std.proofs.lemmas.List.FromFn.{length-range_with_len}
use Rattle.std.specs.List.{range_with_len}
use Rattle.chrono_units.specs.declared.weekday.Weekday.{Weekday}
use Rattle.chrono_units.specs.Weekday.{days_from_sunday}
use Rattle.chrono_units.specs.Years.{is_leap_year, is_year, month_length}
use Rattle.chrono_calendar.specs.Days.{IsDate, year_of, month_of, day_of, day_number_of_ymd}
use Rattle.chrono_calendar.specs.Weeks.{days_from_sunday_of, days_with_weekday, date_of_nth_weekday}
use Rattle.chrono_calendar.specs.YearsBetween.{years_between, is_earlier_in_year}
use Rattle.chrono_calendar.proofs.Signed.{signed}
use Rattle.chrono_calendar.proofs.MonthMoveLaws.{year_of-range}
use Rattle.chrono_calendar.proofs.Months.{month_length_in-bounds}
use Rattle.numbers_c.specs.Answers.{none_number}

some_of_test : (b : Bool) (x k : ℕ) → Some k ≡ cond b None (Some x) → k ≡ x
some_of_test true x k e = cc
some_of_test false x k e = cc

fewer : (b : Bool) (x : ℕ) → cond b (x - 1) x ≤ x
fewer true x = omega arith
fewer false x = omega arith

-- dates are fewer years apart than the years of the library
pub years_between-few : (n base : ℤ) (k : ℕ) → IsDate n → IsDate base → Some k ≡ years_between n base → k < 524_287
unfolding years_between
years_between-few n base k h i e =
    let year = year_of-range n h in
    let base_year = year_of-range base i in
    let apart = unsigned_abs (year_of n -ℤ year_of base) in
    let b = is_earlier_in_year (month_of n) (day_of n) (month_of base) (day_of base) in
    let is : k ≡ cond b (apart - 1) apart = some_of_test (int_lt n base) (cond b (apart - 1) apart) k e in
    let size : apart < 524_287 = omega (arith, signed, year.0, year.1, base_year.0, base_year.1) in
    omega (arith, is, fewer b apart, size)

-- a month has at most 31 days with one weekday
days_with_weekday-few : (y : ℤ) (m : ℕ) (d : Weekday) → length (days_with_weekday y m d) ≤ 31
unfolding days_with_weekday
days_with_weekday-few y m d =
    let all = range_with_len 1 (month_length y m) in
    let p : ℕ → Bool = λ k. days_from_sunday_of (day_number_of_ymd y m k) == days_from_sunday d in
    omega (arith, length-filter p all, count_by-le-length p all, length-range_with_len 1 (month_length y m), month_length_in-bounds (is_leap_year y) m)

no_day : Option ℤ
no_day = None

nothing : (b : Bool) → no_day ≡ cond b no_day no_day
unfolding no_day
nothing true = refl
nothing false = refl

-- so none of them is numbered past a byte
pub date_of_nth_weekday-far : (y : ℤ) (m n : ℕ) (d : Weekday) → (n < 256 → ⊥) → None ≡ date_of_nth_weekday y m d n
unfolding date_of_nth_weekday no_day
date_of_nth_weekday-far y m n d far =
    let past : slice_get (days_with_weekday y m d) (n - 1) ≡ None = slice_get_past (days_with_weekday y m d) (n - 1) (grind (arith, far, days_with_weekday-few y m d)) in
    rw past (nothing (is_year y && (nat_le 1 m && nat_le m 12) && nat_le 1 n))

-- the number that stands for none is no date
pub none_number-exists : (o : Option ℤ) → None ≡ o → IsDate none_number ↔ IsSome o
none_number-exists None e = ((λ h. absurd (omega (arith, signed, h.0))), (λ s. cc))
none_number-exists (Some n) e = absurd cc
