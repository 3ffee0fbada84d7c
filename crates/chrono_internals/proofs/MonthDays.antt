-- A month and a day against their ordinal, where the tables' numbers tell them.
use Rattle.std.proofs.Common.{◌≡◌, ℕ, zero, suc, ◌+◌, ◌-◌, ◌*◌, ◌/◌, ◌%◌, ◌≤◌, ◌⊎◌, inl, inr, Bool, true, false, cond, nat_eq, nat_lt, refl, arith}
use Rattle.std.proofs.lemmas.Bool.Decides.{nat_tests}
use Rattle.std.specs.Int.{IsInRange}
use Rattle.chrono_units.specs.Years.{month_length_in}
use Rattle.chrono_calendar.specs.Days.{days_of_months_in, month_of_ordinal}
use Rattle.chrono_calendar.specs.Flags.{IsYearFlags}
use Rattle.chrono_internals.specs.Tables.{ol_of, mdl_adjustment, ol_adjustment, is_day_of_month}
use Rattle.chrono_internals.specs.MonthDay.{MonthDayFlags, is_leap_flags, IsDayOfMonth, ordinal_of_month_day, month_day_stored, month_day_of_ordinal}
use Rattle.chrono_calendar.proofs.Months.{month_length_in-bounds, month_of_ordinal-exists}

days_of_months_in-bound : (leap : Bool) (n : ℕ) → days_of_months_in leap n ≤ 31 * n
unfolding days_of_months_in
days_of_months_in-bound leap zero = omega arith
days_of_months_in-bound leap (suc n) = omega (arith, days_of_months_in-bound leap n, month_length_in-bounds leap (suc n))

-- the last digit of an ordinal's number says whether the year is leap, as the flags do
same_leap : (n f : ℕ) → n % 2 ≡ f / 8 → f ≤ 15 → nat_eq (n % 2) 0 ≡ is_leap_flags f
same_leap n f e h = grind (arith, nat_tests)

-- the month and the day of an ordinal lie as far above it as the table says
pub ol_adjustment-stored : (n f : ℕ) → IsInRange 2 732 n → n % 2 ≡ f / 8 → IsYearFlags f → (let a = month_day_of_ordinal (n / 2) f in (a.month ≤ 12) × (a.day ≤ 31) × ((n + ol_adjustment n) * 8 + f % 8 ≡ a.month * 512 + a.day * 16 + f))
unfolding ol_adjustment
ol_adjustment-stored n f h e k =
    let leap = is_leap_flags f in
    let digit : cond leap 0 1 ≡ n % 2 = grind (arith, nat_tests) in
    let last : n / 2 ≤ cond leap 366 365 = grind (arith, nat_tests) in
    let named = month_of_ordinal-exists leap (n / 2) (omega arith, last) in
    let before = days_of_months_in-bound leap (month_of_ordinal leap (n / 2) - 1) in
    let short = month_length_in-bounds leap (month_of_ordinal leap (n / 2)) in
    rw (same_leap n f e (omega arith)) (omega (arith, named.month), omega (arith, named.day), omega (arith, named.month, named.day, named.ordinal))

day_tested : (leap : Bool) (m d : ℕ) → is_day_of_month leap m d ≡ true → IsInRange 1 12 m × IsInRange 1 (month_length_in leap m) d
day_tested leap m d h = (
  (grind (arith, nat_tests), grind (arith, nat_tests)),
  (grind (arith, nat_tests), grind (arith, nat_tests)),
)

day_refused : (leap : Bool) (m d : ℕ) → is_day_of_month leap m d ≡ false → IsInRange 1 12 m × IsInRange 1 (month_length_in leap m) d → ⊥
day_refused leap m d h k = grind (arith, nat_tests, k.0, k.1)

-- how far a real day's number lies above that of its ordinal
real_day : (n m d before : ℕ) (leap : Bool) → n / 512 ≡ m → n / 16 % 32 ≡ d → nat_lt (n % 16) 8 ≡ leap → 1 ≤ m → before ≤ 31 * (m - 1) → (let above = n / 8 - ((before + d) * 2 + cond leap 0 1) in (1 ≤ above) × (above * 8 + ((before + d) * 16 + n % 16) ≡ n))
real_day n m d before leap e f g h k =
    let digit : cond leap 0 1 ≡ n % 16 / 8 = grind (arith, nat_tests) in
    (omega arith, omega arith)

-- a value that a test chooses against 0
chosen : (b : Bool) (x : ℕ) (P : ℕ → Type 0) (N : Type 0) → (b ≡ true → P x) → (b ≡ false → N) → P (cond b x 0) ⊎ ((cond b x 0 ≡ 0) × N)
chosen true x P N f g = inl (f refl)
chosen false x P N f g = inr (refl, g refl)

-- a stored month and day lie that far above their ordinal
abbrev LiesAbove : ℕ → ℕ → Type 0
LiesAbove n above =
    let a = month_day_stored n in
    (1 ≤ above) × IsDayOfMonth a × (above * 8 + (ordinal_of_month_day a * 16 + a.flags) ≡ n)

-- the table at a stored month and day: how far they lie above their ordinal, or 0 where there is no such day
pub mdl_adjustment-stored : (n : ℕ) → LiesAbove n (mdl_adjustment (n / 8)) ⊎ ((mdl_adjustment (n / 8) ≡ 0) × (IsDayOfMonth (month_day_stored n) → ⊥))
unfolding mdl_adjustment
mdl_adjustment-stored n =
    let months : n / 8 / 64 ≡ n / 512 = omega arith in
    let days : n / 8 / 2 % 32 ≡ n / 16 % 32 = omega arith in
    let leap : nat_eq (n / 8 % 2) 0 ≡ is_leap_flags (n % 16) = grind (arith, nat_tests) in
    let m = n / 512 in
    let d = n / 16 % 32 in
    let flags_leap = is_leap_flags (n % 16) in
    let before = days_of_months_in flags_leap (m - 1) in
    rw (months, days, leap) (chosen (is_day_of_month flags_leap m d) (n / 8 - ol_of flags_leap (before + d)) (LiesAbove n) (IsDayOfMonth (month_day_stored n) → ⊥)
    (λ t.
    let real = day_tested flags_leap m d t in
    let lies = real_day n m d before flags_leap refl refl refl (omega arith) (days_of_months_in-bound flags_leap (m - 1)) in
    (lies.0, real, lies.1))
    (λ t. day_refused flags_leap m d t))

-- what a number stores, by its parts
pub month_day_stored-parts : (n m d f : ℕ) → n ≡ m * 512 + d * 16 + f → d ≤ 31 → f ≤ 15 → (let a : MonthDayFlags = record { month = m; day = d; flags = f } in month_day_stored n ≡ a)
month_day_stored-parts n m d f e h k =
    let months : n / 512 ≡ m = omega arith in
    let days : n / 16 % 32 ≡ d = omega arith in
    let flags : n % 16 ≡ f = omega arith in
    cc
