-- The days before each month, and the month of each day.
use Rattle.std.proofs.Common.{◌≡◌, ℕ, ◌+◌, ◌-◌, ◌≤◌, Bool, true, false, ◌&&◌, ◌||◌, cond, nat_eq, nat_lt, nat_le, refl, arith}
use Rattle.std.proofs.lemmas.Bool.Decides.{nat_tests}
use Rattle.chrono_units.specs.Years.{month_length_in}
use Rattle.chrono_calendar.specs.Days.{days_of_months_in, month_of_ordinal, day_of_ordinal}
use Rattle.chrono_calendar.proofs.Tests.{passes_below, passes_below-at}
use Rattle.std.specs.Int.{IsInRange}

-- the day d of the month m of a leap year or of a common year is its o-th day
pub record IsMonthAndDay (leap : Bool) (m d o : ℕ) : Type 0 where
  pub month : IsInRange 1 12 m
  pub day : IsInRange 1 (month_length_in leap m) d
  pub ordinal : days_of_months_in leap (m - 1) + d ≡ o

-- the months of a year have its days
pub days_of_months_in-year : (leap : Bool) → days_of_months_in leap 12 ≡ cond leap 366 365
unfolding days_of_months_in
days_of_months_in-year true = refl
days_of_months_in-year false = refl

-- a month has 28 to 31 days
pub month_length_in-bounds : (leap : Bool) (m : ℕ) → (28 ≤ month_length_in leap m) × (month_length_in leap m ≤ 31)
month_length_in-bounds leap m = (grind arith, grind arith)

-- a month ends within its year
abbrev month_ends_in_year : Bool → ℕ → Bool
month_ends_in_year leap n = nat_le (days_of_months_in leap n + month_length_in leap (n + 1)) (cond leap 366 365)

months_end_in_year : (leap : Bool) → passes_below (month_ends_in_year leap) 12 ≡ true
unfolding passes_below days_of_months_in
months_end_in_year true = refl
months_end_in_year false = refl

-- a day of a month is a day of its year
pub ordinal_within : (leap : Bool) (m d : ℕ) → IsInRange 1 12 m → IsInRange 1 (month_length_in leap m) d → IsInRange 1 (cond leap 366 365) (days_of_months_in leap (m - 1) + d)
ordinal_within leap m d h k =
    let back : m - 1 + 1 ≡ m = omega arith in
    let passed = passes_below-at (month_ends_in_year leap) 12 (months_end_in_year leap) (m - 1) (omega arith) in
    let plain : days_of_months_in leap (m - 1) + month_length_in leap (m - 1 + 1) ≤ cond leap 366 365 = grind (arith, nat_tests) in
    let ends = rw back at plain in
    (omega arith, omega arith)

-- the day d of the month m of such a year is its o-th day, as a test
abbrev is_month_and_day : Bool → ℕ → ℕ → ℕ → Bool
is_month_and_day leap m d o =
    nat_le 1 m && nat_le m 12 && nat_le 1 d && nat_le d (month_length_in leap m) && nat_eq (days_of_months_in leap (m - 1) + d) o

parts : (a b c d e : Bool) → (a && b && c && d && e) ≡ true → (a ≡ true) × (b ≡ true) × (c ≡ true) × (d ≡ true) × (e ≡ true)
parts a b c d e h = grind arith

IsMonthAndDay-tested : (leap : Bool) (m d o : ℕ) → is_month_and_day leap m d o ≡ true → IsMonthAndDay leap m d o
IsMonthAndDay-tested leap m d o h =
    let p = parts (nat_le 1 m) (nat_le m 12) (nat_le 1 d) (nat_le d (month_length_in leap m)) (nat_eq (days_of_months_in leap (m - 1) + d) o) h in
    record {
      month = (grind (arith, nat_tests, p.0), grind (arith, nat_tests, p.1));
      day = (grind (arith, nat_tests, p.2), grind (arith, nat_tests, p.3));
      ordinal = grind (arith, nat_tests, p.4);
    }

-- each ordinal has a month and a day
ordinals_tested : (leap : Bool) → passes_below (λ n. is_month_and_day leap (month_of_ordinal leap (n + 1)) (day_of_ordinal leap (n + 1)) (n + 1)) (cond leap 366 365) ≡ true
unfolding passes_below days_of_months_in month_of_ordinal day_of_ordinal
ordinals_tested true = refl
ordinals_tested false = refl

pub month_of_ordinal-exists : (leap : Bool) (o : ℕ) → IsInRange 1 (cond leap 366 365) o → IsMonthAndDay leap (month_of_ordinal leap o) (day_of_ordinal leap o) o
month_of_ordinal-exists leap o h =
    let back : o - 1 + 1 ≡ o = omega arith in
    let passed = passes_below-at (λ n. is_month_and_day leap (month_of_ordinal leap (n + 1)) (day_of_ordinal leap (n + 1)) (n + 1)) (cond leap 366 365) (ordinals_tested leap) (o - 1) (omega arith) in
    IsMonthAndDay-tested leap (month_of_ordinal leap o) (day_of_ordinal leap o) o (rw back at passed)

-- and no other: the test passes past the month's end too
abbrev names_itself : Bool → ℕ → ℕ → Bool
names_itself leap m d =
    let o = days_of_months_in leap (m - 1) + d in
    nat_lt (month_length_in leap m) d || (nat_eq (month_of_ordinal leap o) m && nat_eq (day_of_ordinal leap o) d)

days_tested : (leap : Bool) → passes_below (λ m. passes_below (λ d. names_itself leap (m + 1) (d + 1)) 31) 12 ≡ true
unfolding passes_below days_of_months_in month_of_ordinal day_of_ordinal
days_tested true = refl
days_tested false = refl

itself : (a b c : Bool) → (a || (b && c)) ≡ true → a ≡ false → (b ≡ true) × (c ≡ true)
itself a b c h k = grind arith

pub month_of_ordinal-unique : (leap : Bool) (m d o : ℕ) → IsMonthAndDay leap m d o → (month_of_ordinal leap o ≡ m) × (day_of_ordinal leap o ≡ d)
month_of_ordinal-unique leap m d o h =
    let month_back : m - 1 + 1 ≡ m = omega (arith, h.month) in
    let day_back : d - 1 + 1 ≡ d = omega (arith, h.day) in
    let in_month = passes_below-at (λ k. passes_below (λ d. names_itself leap (k + 1) (d + 1)) 31) 12 (days_tested leap) (m - 1) (omega (arith, h.month)) in
    let passed = passes_below-at (λ k. names_itself leap (m - 1 + 1) (k + 1)) 31 in_month (d - 1) (omega (arith, h.day, month_length_in-bounds leap m)) in
    let here : names_itself leap m d ≡ true = rw (month_back, day_back) at passed in
    let inside : nat_lt (month_length_in leap m) d ≡ false = grind (arith, nat_tests, h.day) in
    let same = itself (nat_lt (month_length_in leap m) d) (nat_eq (month_of_ordinal leap (days_of_months_in leap (m - 1) + d)) m) (nat_eq (day_of_ordinal leap (days_of_months_in leap (m - 1) + d)) d) here inside in
    rw (← h.ordinal) (grind (arith, nat_tests, same.0), grind (arith, nat_tests, same.1))
