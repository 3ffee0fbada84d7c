-- What is known of the n-th day of a month that has a weekday.
use Rattle.std.proofs.Common.{◌≡◌, ◌↔◌, ℕ, ◌+◌, ◌-◌, ◌*◌, ◌%◌, ◌<◌, ◌≤◌, Bool, true, false, ◌&&◌, cond, nat_le, length, get_or, slice_get, Option, Some, None, IsSome, IfSome, refl, sym, ap, subst, ◌∙◌, arith, ℤ, pos, ◌+ℤ◌}
use Rattle.std.proofs.lemmas.Bool.{and_parts}
use Rattle.std.proofs.lemmas.Bool.Decides.{nat_tests}
use Rattle.std.proofs.lemmas.Option.{cond_some, slice_get_within, slice_get-get_or}
use Rattle.std.specs.Cmp.Derive.{both_true}
use Rattle.std.specs.Int.{IsInRange}
use Rattle.chrono_units.specs.Years.{IsYear, is_leap_year, is_year, month_length}
use Rattle.chrono_units.specs.declared.weekday.Weekday.{Weekday}
use Rattle.chrono_units.specs.Weekday.{days_from_monday}
use Rattle.chrono_units.proofs.WeekdayCycle.{days_from_monday-lt}
use Rattle.chrono_calendar.specs.Days.{days_before_year, days_of_months, day_number_of_ymd, year_of, month_of, day_of}
use Rattle.chrono_calendar.specs.Weeks.{days_from_sunday_of, weekday_of, days_with_weekday, date_of_nth_weekday}
use Rattle.chrono_calendar.proofs.Months.{month_length_in-bounds}
use Rattle.chrono_calendar.proofs.Dates.{is_year-fact, is_year-test, date_of_ymd-SomeIff}
use Rattle.chrono_calendar.proofs.NamedDates.{calendar_name-exists, date_of_ymd-name, number-calendar_name}
use Rattle.chrono_calendar.proofs.GivenNames.{exists_if}
use Rattle.chrono_calendar.proofs.IsoWeeks.{days_from_monday-of, days_from_sunday_of-bound, same_weekday}
use Rattle.chrono_calendar.proofs.NthWeekdays.{weekday_before_month, weekday_in_month, nth_day, days_with_weekday-at, mapped}

-- the n-th day with a weekday, by a test of its names
abbrev nth_in_month : ℤ → ℕ → Weekday → ℕ → ℕ
nth_in_month y m d n = nth_day (weekday_before_month y m) (days_from_monday d) (n - 1)

abbrev is_nth_name : ℤ → ℕ → Weekday → ℕ → Bool
is_nth_name y m d n = (is_year y && (nat_le 1 m && nat_le m 12) && nat_le 1 n) && nat_le (nth_in_month y m d n) (month_length y m)

both_tests : (a b : Bool) (v : ℤ) → cond a (cond b (Some v) None) None ≡ cond (a && b) (Some v) None
both_tests true b v = refl
both_tests false b v = refl

date_of_nth_weekday-tested : (y : ℤ) (m n : ℕ) (d : Weekday) → date_of_nth_weekday y m d n ≡ cond (is_nth_name y m d n) (Some (day_number_of_ymd y m (nth_in_month y m d n))) None
unfolding date_of_nth_weekday
date_of_nth_weekday-tested y m n d =
    let k = nth_in_month y m d n in
    rw (days_with_weekday-at y m (n - 1) d, mapped (nat_le k (month_length y m)) (λ p. day_number_of_ymd y m p) k)
    (both_tests (is_year y && (nat_le 1 m && nat_le m 12) && nat_le 1 n) (nat_le k (month_length y m)) (day_number_of_ymd y m k))

-- the library has the year, which has the month, and n days there have the weekday
abbrev pub IsNthName : ℤ → ℕ → Weekday → ℕ → Type 0
IsNthName y m d n = IsYear y × IsInRange 1 12 m × IsInRange 1 (length (days_with_weekday y m d)) n

is_nth_name-fact : (y : ℤ) (m n : ℕ) (d : Weekday) → is_nth_name y m d n ≡ true → IsNthName y m d n
is_nth_name-fact y m n d t =
    let k = nth_in_month y m d n in
    let both = and_parts (is_year y && (nat_le 1 m && nat_le m 12) && nat_le 1 n) (nat_le k (month_length y m)) t in
    let two = and_parts (is_year y && (nat_le 1 m && nat_le m 12)) (nat_le 1 n) both.0 in
    let one = and_parts (is_year y) (nat_le 1 m && nat_le m 12) two.0 in
    let at : slice_get (days_with_weekday y m d) (n - 1) ≡ Some k = rw both.1 at (days_with_weekday-at y m (n - 1) d) in
    let within = slice_get_within (days_with_weekday y m d) (n - 1) k at in
    let first : 1 ≤ n = grind (arith, nat_tests, two.1) in
    (is_year-fact y one.0, (grind (arith, nat_tests, one.1), grind (arith, nat_tests, one.1)), (first, omega (arith, within, first)))

-- an answer by a test that is a value was tested
known_some : {A : Type 0} (b : Bool) (v x : A) → Some x ≡ cond b (Some v) None → b ≡ true
known_some true v x e = refl
known_some false v x e = cc

is_nth_name-test : (y : ℤ) (m n : ℕ) (d : Weekday) → IsNthName y m d n → is_nth_name y m d n ≡ true
is_nth_name-test y m n d h =
    let k = nth_in_month y m d n in
    let at = slice_get-get_or (days_with_weekday y m d) (n - 1) 0 (omega (arith, h.2.0, h.2.1)) in
    let last = known_some (nat_le k (month_length y m)) k (get_or (days_with_weekday y m d) (n - 1) 0) (sym at ∙ days_with_weekday-at y m (n - 1) d) in
    let year = is_year-test y h.0 in
    let month : (nat_le 1 m && nat_le m 12) ≡ true = grind (arith, nat_tests, h.1.0, h.1.1) in
    let first : nat_le 1 n ≡ true = grind (arith, nat_tests, h.2.0) in
    both_true (both_true (both_true year month) first) last

-- the year, the month and the weekday of that day, and its place in the month
nth_weekday-parts : (e y : ℤ) (m n : ℕ) (d : Weekday) → date_of_nth_weekday y m d n ≡ Some e → (year_of e ≡ y) × (month_of e ≡ m) × (weekday_of e ≡ d) × (7 * (n - 1) < day_of e) × (day_of e ≤ 7 * n)
nth_weekday-parts e y m n d h =
    let k = nth_in_month y m d n in
    let found = cond_some (is_nth_name y m d n) (day_number_of_ymd y m k) e (sym (date_of_nth_weekday-tested y m n d) ∙ h) in
    let name = is_nth_name-fact y m n d found.0 in
    let both = and_parts (is_year y && (nat_le 1 m && nat_le m 12) && nat_le 1 n) (nat_le k (month_length y m)) found.0 in
    let last : k ≤ month_length y m = grind (arith, nat_tests, both.1) in
    let named = date_of_ymd-name e y m k (sym (date_of_ymd-SomeIff (Some e) y m k ((name.0, (name.1, (omega arith, last))), sym found.1))) in
    let bound = days_from_sunday_of-bound (days_before_year y +ℤ pos (days_of_months y (m - 1))) in
    let sunday : days_from_sunday_of e ≡ (days_from_monday d + 1) % 7 = ap days_from_sunday_of (sym found.1) ∙ weekday_in_month y m k ∙ omega (arith, bound, days_from_monday-lt d) in
    (sym named.0, sym named.1, same_weekday e d sunday, omega (arith, named.2), omega (arith, named.2, name.2.0))

nth_weekday-exists : (o : Option ℤ) (y : ℤ) (m n : ℕ) (d : Weekday) → o ≡ date_of_nth_weekday y m d n → IsSome o ↔ IsNthName y m d n
nth_weekday-exists o y m n d h =
    let tested = exists_if (is_nth_name y m d n) o (day_number_of_ymd y m (nth_in_month y m d n)) (h ∙ date_of_nth_weekday-tested y m n d) in
    ((λ some. is_nth_name-fact y m n d (tested.0 some)), (λ name. tested.1 (is_nth_name-test y m n d name)))

-- there is a date exactly if n is one of those days, and it lies in the n-th seven days of the month
pub given_nth_weekday : (o : Option ℤ) (y : ℤ) (m n : ℕ) (d : Weekday) → o ≡ date_of_nth_weekday y m d n → (IsSome o ↔ IsNthName y m d n) × IfSome o (λ e. year_of e ≡ y) × IfSome o (λ e. month_of e ≡ m) × IfSome o (λ e. weekday_of e ≡ d) × IfSome o (λ e. (7 * (n - 1) < day_of e) × (day_of e ≤ 7 * n))
given_nth_weekday None y m n d h = (nth_weekday-exists None y m n d h, tt, tt, tt, tt)
given_nth_weekday (Some e) y m n d h =
    let parts = nth_weekday-parts e y m n d (sym h) in
    (nth_weekday-exists (Some e) y m n d h, parts.0, parts.1, parts.2, (parts.3, parts.4))

-- each month has four days with each weekday
pub first_four : (y : ℤ) (m n : ℕ) (d : Weekday) → IsInRange 1 4 n → IsInRange 1 (length (days_with_weekday y m d)) n
first_four y m n d h =
    let k = nth_in_month y m d n in
    let bound = days_from_monday-lt d in
    let length = month_length_in-bounds (is_leap_year y) m in
    let last : nat_le k (month_length y m) ≡ true = grind (arith, nat_tests, h.1, length.0) in
    let at : slice_get (days_with_weekday y m d) (n - 1) ≡ Some k = rw last at (days_with_weekday-at y m (n - 1) d) in
    (h.0, omega (arith, h.0, slice_get_within (days_with_weekday y m d) (n - 1) k at))

-- a day of the n-th seven days of its month is the n-th day there that has its weekday
pub nth_weekday-of_day : (x : ℤ) (n : ℕ) → IsYear (year_of x) → 7 * (n - 1) < day_of x → day_of x ≤ 7 * n → date_of_nth_weekday (year_of x) (month_of x) (weekday_of x) n ≡ Some x
nth_weekday-of_day x n h low high =
    let y = year_of x in
    let m = month_of x in
    let d = weekday_of x in
    let name = calendar_name-exists x in
    let number = number-calendar_name x in
    let place : days_from_sunday_of x ≡ (weekday_before_month y m + day_of x) % 7 = ap days_from_sunday_of (sym number) ∙ weekday_in_month y m (day_of x) in
    let bound = days_from_sunday_of-bound (days_before_year y +ℤ pos (days_of_months y (m - 1))) in
    let same : nth_in_month y m d n ≡ day_of x = omega (arith, days_from_monday-of x, place, bound, low, high, name.1.0) in
    let month : (nat_le 1 m && nat_le m 12) ≡ true = grind (arith, nat_tests, name.0.0, name.0.1) in
    let first : nat_le 1 n ≡ true = grind (arith, nat_tests, high, name.1.0) in
    let last : nat_le (nth_in_month y m d n) (month_length y m) ≡ true = ap (λ k. nat_le k (month_length y m)) same ∙ grind (arith, nat_tests, name.1.1) in
    let test : is_nth_name y m d n ≡ true = both_true (both_true (both_true (is_year-test y h) month) first) last in
    date_of_nth_weekday-tested y m n d ∙ ap (λ b. cond b (Some (day_number_of_ymd y m (nth_in_month y m d n))) None) test ∙ ap (λ k. Some (day_number_of_ymd y m k)) same ∙ ap Some number

pub nth_weekday-named : (x y : ℤ) (m n : ℕ) (d : Weekday) → IsYear y → year_of x ≡ y → month_of x ≡ m → weekday_of x ≡ d → 7 * (n - 1) < day_of x → day_of x ≤ 7 * n → date_of_nth_weekday y m d n ≡ Some x
nth_weekday-named x y m n d h year month weekday low high =
    ap (λ z. date_of_nth_weekday z m d n) (sym year)
    ∙ ap (λ z. date_of_nth_weekday (year_of x) z d n) (sym month)
    ∙ ap (λ z. date_of_nth_weekday (year_of x) (month_of x) z n) (sym weekday)
    ∙ nth_weekday-of_day x n (subst IsYear (sym year) h) low high
