-- The days of a month that have one weekday: the first lies at most six days on from the first of the month, and each next a week on.
use Rattle.std.proofs.Common.{◌≡◌, ℕ, ◌+◌, ◌-◌, ◌*◌, ◌%◌, ◌<◌, ◌≤◌, inl, inr, Bool, true, false, ◌&&◌, cond, nat_eq, nat_le, List, length, slice_get, Option, Some, None, refl, sym, ap, ◌∙◌, arith, ℤ, pos, ◌+ℤ◌}
use Rattle.std.proofs.lemmas.Bool.Decides.{nat_tests}
use Rattle.std.proofs.lemmas.Bool.{and_parts, cases_order, eqb-true}
use Rattle.std.proofs.lemmas.Option.{slice_get_past}
use Rattle.std.proofs.lemmas.List.Elements.{filter_agree}
use Rattle.std.specs.List.{filter, range_with_len}
use Rattle.std.specs.Option.{option_eq, option_map}
use Rattle.chrono_units.specs.Years.{is_leap_year, is_year, month_length}
use Rattle.chrono_units.specs.declared.weekday.Weekday.{Weekday}
use Rattle.chrono_units.specs.Weekday.{days_from_monday, days_from_sunday, days_since}
use Rattle.chrono_units.proofs.WeekdayCycle.{days_from_monday-lt}
use Rattle.chrono_calendar.specs.Days.{days_before_year, days_of_months, day_number_of_ymd, is_calendar_name, date_of_ymd}
use Rattle.chrono_calendar.specs.Weeks.{days_from_sunday_of, weekday_of, days_with_weekday, date_of_nth_weekday}
use Rattle.chrono_text.proofs.Signed.{signed}
use Rattle.chrono_calendar.proofs.Tests.{passes_below, passes_below-at}
use Rattle.chrono_calendar.proofs.Months.{month_length_in-bounds}
use Rattle.chrono_calendar.proofs.NamedDates.{None-cond}
use Rattle.chrono_calendar.proofs.IsoWeeks.{days_from_monday-of, days_from_sunday_of-bound}

-- the weekday of the last day before the month m of the year y
abbrev pub weekday_before_month : ℤ → ℕ → ℕ
weekday_before_month y m = days_from_sunday_of (days_before_year y +ℤ pos (days_of_months y (m - 1)))

pub weekday_in_month : (y : ℤ) (m d : ℕ) → days_from_sunday_of (day_number_of_ymd y m d) ≡ (weekday_before_month y m + d) % 7
weekday_in_month y m d = omega (arith, signed)

-- the days with a weekday, by numbers alone: s is the weekday before the month, f that sought, counted from Monday, and l the month's days past 28
abbrev days_found : ℕ → ℕ → ℕ → List ℕ
days_found s f l = filter (λ d. nat_eq ((s + d) % 7) ((f + 1) % 7)) (range_with_len 1 (28 + l))

-- the days from the first of the month to the first of them
abbrev pub days_ahead : ℕ → ℕ → ℕ
days_ahead s f = (f + 7 - s) % 7

abbrev pub nth_day : ℕ → ℕ → ℕ → ℕ
nth_day s f i = i * 7 + days_ahead s f + 1

abbrev found_at : ℕ → ℕ → ℕ → ℕ → Bool
found_at s f l i = option_eq nat_eq (slice_get (days_found s f l) i) (cond (nat_le (nth_day s f i) (28 + l)) (Some (nth_day s f i)) None)

abbrev found_few : ℕ → ℕ → ℕ → Bool
found_few s f l = nat_le (length (days_found s f l)) 5

found_tested : passes_below (λ s. passes_below (λ f. passes_below (λ l. found_few s f l && passes_below (λ i. found_at s f l i) 5) 4) 7) 7 ≡ true
unfolding passes_below
found_tested = refl

option_same : (a b : Option ℕ) → option_eq nat_eq a b ≡ true → a ≡ b
option_same None None e = refl
option_same None (Some y) e = cc
option_same (Some x) None e = cc
option_same (Some x) (Some y) e = ap Some (eqb-true x y e)

-- so the i-th of them is i weeks after the first, or past the month's end
few_or_none : (s f l i : ℕ) → found_few s f l ≡ true → l < 4 → 5 ≤ i → slice_get (days_found s f l) i ≡ cond (nat_le (nth_day s f i) (28 + l)) (Some (nth_day s f i)) None
few_or_none s f l i few c h =
    let short : length (days_found s f l) ≤ i = grind (arith, nat_tests, few) in
    let late : nat_le (nth_day s f i) (28 + l) ≡ false = grind (arith, nat_tests) in
    rw late (slice_get_past (days_found s f l) i short)

days_found-at : (s f l i : ℕ) → s < 7 → f < 7 → l < 4 → slice_get (days_found s f l) i ≡ cond (nat_le (nth_day s f i) (28 + l)) (Some (nth_day s f i)) None
days_found-at s f l i a b c =
    let at_s = passes_below-at (λ p. passes_below (λ q. passes_below (λ r. found_few p q r && passes_below (λ j. found_at p q r j) 5) 4) 7) 7 found_tested s a in
    let at_f = passes_below-at (λ q. passes_below (λ r. found_few s q r && passes_below (λ j. found_at s q r j) 5) 4) 7 at_s f b in
    let at_l = passes_below-at (λ r. found_few s f r && passes_below (λ j. found_at s f r j) 5) 4 at_f l c in
    let both = and_parts (found_few s f l) (passes_below (λ j. found_at s f l j) 5) at_l in
    elim (cases_order i 5) [
      | inl same ↦ few_or_none s f l i both.0 c (omega arith)
      | inr apart ↦ elim apart [
        | inl lt ↦ option_same (slice_get (days_found s f l) i) (cond (nat_le (nth_day s f i) (28 + l)) (Some (nth_day s f i)) None) (passes_below-at (λ j. found_at s f l j) 5 both.1 i lt)
        | inr gt ↦ few_or_none s f l i both.0 c (omega arith)
      ]
    ]

-- the days of a month that have a weekday, by numbers alone
days_with_weekday-found : (y : ℤ) (m : ℕ) (d : Weekday) → days_with_weekday y m d ≡ days_found (weekday_before_month y m) (days_from_monday d) (month_length y m - 28)
unfolding days_with_weekday
days_with_weekday-found y m d =
    let whole : month_length y m ≡ 28 + (month_length y m - 28) = omega (arith, month_length_in-bounds (is_leap_year y) m) in
    ap (λ (n : ℕ). filter (λ p. nat_eq (days_from_sunday_of (day_number_of_ymd y m p)) (days_from_sunday d)) (range_with_len 1 n)) whole
    ∙ filter_agree (λ p. nat_eq (days_from_sunday_of (day_number_of_ymd y m p)) (days_from_sunday d)) (λ p. nat_eq ((weekday_before_month y m + p) % 7) ((days_from_monday d + 1) % 7)) (λ p. ap (λ (w : ℕ). nat_eq w (days_from_sunday d)) (weekday_in_month y m p)) (range_with_len 1 (28 + (month_length y m - 28)))

days_found-in : (s f l len i : ℕ) → 28 + l ≡ len → s < 7 → f < 7 → l < 4 → slice_get (days_found s f l) i ≡ cond (nat_le (nth_day s f i) len) (Some (nth_day s f i)) None
days_found-in s f l len i e a b c = rw (← e) (days_found-at s f l i a b c)

-- the n-th of them
pub days_with_weekday-at : (y : ℤ) (m i : ℕ) (d : Weekday) → slice_get (days_with_weekday y m d) i ≡ cond (nat_le (nth_day (weekday_before_month y m) (days_from_monday d) i) (month_length y m)) (Some (nth_day (weekday_before_month y m) (days_from_monday d) i)) None
days_with_weekday-at y m i d =
    let low = month_length_in-bounds (is_leap_year y) m in
    ap (λ (l : List ℕ). slice_get l i) (days_with_weekday-found y m d)
    ∙ days_found-in (weekday_before_month y m) (days_from_monday d) (month_length y m - 28) (month_length y m) i (omega (arith, low)) (days_from_sunday_of-bound (days_before_year y +ℤ pos (days_of_months y (m - 1)))) (days_from_monday-lt d) (omega (arith, low))

-- none of them is the one before the first
pub date_of_nth_weekday-zero : (y : ℤ) (m n : ℕ) (d : Weekday) → n ≡ 0 → None ≡ date_of_nth_weekday y m d n
unfolding date_of_nth_weekday
date_of_nth_weekday-zero y m n d e =
    None-cond (is_year y && (nat_le 1 m && nat_le m 12) && nat_le 1 n) (option_map (λ p. day_number_of_ymd y m p) (slice_get (days_with_weekday y m d) (n - 1)))
    (λ t. let first = (and_parts (is_year y && (nat_le 1 m && nat_le m 12)) (nat_le 1 n) t).1 in grind (arith, nat_tests, first))

-- and there is none in a month without a first day
pub date_of_nth_weekday-no_month : (y : ℤ) (m n : ℕ) (d : Weekday) → None ≡ date_of_ymd y m 1 → None ≡ date_of_nth_weekday y m d n
unfolding date_of_nth_weekday date_of_ymd
date_of_nth_weekday-no_month y m n d h =
    None-cond (is_year y && (nat_le 1 m && nat_le m 12) && nat_le 1 n) (option_map (λ p. day_number_of_ymd y m p) (slice_get (days_with_weekday y m d) (n - 1)))
    (λ t.
    let both = and_parts (is_year y) (nat_le 1 m && nat_le m 12) (and_parts (is_year y && (nat_le 1 m && nat_le m 12)) (nat_le 1 n) t).0 in
    let inside : nat_le 1 (month_length y m) ≡ true = grind (arith, nat_tests, month_length_in-bounds (is_leap_year y) m) in
    let test : (is_year y && is_calendar_name y m 1) ≡ true = rw (both.0, both.1, inside) refl in
    let some = rw test at h in cc)

pub mapped : (b : Bool) (g : ℕ → ℤ) (x : ℕ) → option_map g (cond b (Some x) None) ≡ cond b (Some (g x)) None
mapped true g x = refl
mapped false g x = refl

months_known : (a b : Bool) (v : ℤ) (x : ℤ) → Some v ≡ cond (a && b) (Some x) None → (a ≡ true) × (b ≡ true) × (v ≡ x)
months_known true true v x e = (refl, refl, cc)
months_known true false v x e = cc
months_known false b v x e = cc

-- else it is the day that lies whole weeks after the first of them, if the month has it
pub date_of_nth_weekday-ymd : (y v : ℤ) (m n k ahead : ℕ) (d : Weekday) → Some v ≡ date_of_ymd y m 1 → 1 ≤ n → ahead ≡ days_since d (weekday_of v) → k ≡ (n - 1) * 7 + ahead + 1 → date_of_ymd y m k ≡ date_of_nth_weekday y m d n
unfolding date_of_nth_weekday date_of_ymd
date_of_nth_weekday-ymd y v m n k ahead d found first a e =
    let known = months_known (is_year y) (is_calendar_name y m 1) v (day_number_of_ymd y m 1) found in
    let month = (and_parts (nat_le 1 m && nat_le m 12) (nat_le 1 1 && nat_le 1 (month_length y m)) known.1).0 in
    let weekday : days_from_sunday_of v ≡ (weekday_before_month y m + 1) % 7 = ap days_from_sunday_of known.2 ∙ weekday_in_month y m 1 in
    let same : k ≡ nth_day (weekday_before_month y m) (days_from_monday d) (n - 1) = omega (arith, days_from_monday-of v, days_from_sunday_of-bound (days_before_year y +ℤ pos (days_of_months y (m - 1))), days_from_monday-lt d) in
    let one : nat_le 1 n ≡ true = grind (arith, nat_tests) in
    let low : nat_le 1 k ≡ true = grind (arith, nat_tests) in
    let at = days_with_weekday-at y m (n - 1) d in
    rw (known.0, month, one, low, at, ← same) (sym (mapped (nat_le k (month_length y m)) (λ p. day_number_of_ymd y m p) k))
