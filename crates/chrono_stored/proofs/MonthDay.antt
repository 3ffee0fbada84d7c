-- The linear formulas of months tell what counting does.
use Rattle.std.proofs.Common.{◌≡◌, ℕ, ◌+◌, ◌-◌, ◌*◌, ◌/◌, ◌%◌, Bool, true, false, ◌&&◌, cond, nat_eq, nat_lt, refl, arith}
use Rattle.std.proofs.lemmas.Bool.{and_parts}
use Rattle.std.proofs.lemmas.Bool.Decides.{nat_tests}
use Rattle.std.specs.Int.{IsInRange}
use Rattle.chrono_calendar.specs.Days.{days_of_months_in, month_of_ordinal, day_of_ordinal}
use Rattle.chrono_calendar.proofs.Tests.{passes_below, passes_below-at}

-- the day from 0, where February has 30 days
abbrev even_day : Bool → ℕ → ℕ
even_day leap o = cond (nat_lt (61 - cond leap 1 2) o) (o - 1 + cond leap 1 2) (o - 1)

abbrev tells_month_day : Bool → ℕ → Bool
tells_month_day leap n =
    let scaled = 67 * even_day leap (n + 1) + 2080 in
    nat_eq (scaled / 2048) (month_of_ordinal leap (n + 1)) && nat_eq (scaled % 2048 / 67 + 1) (day_of_ordinal leap (n + 1))

told : (leap : Bool) → passes_below (tells_month_day leap) (cond leap 366 365) ≡ true
unfolding passes_below days_of_months_in month_of_ordinal day_of_ordinal
told true = refl
told false = refl

pub month_day-told : (leap : Bool) (o : ℕ) → IsInRange 1 (cond leap 366 365) o → ((67 * even_day leap o + 2080) / 2048 ≡ month_of_ordinal leap o) × ((67 * even_day leap o + 2080) % 2048 / 67 + 1 ≡ day_of_ordinal leap o)
month_day-told leap o h =
    let back : o - 1 + 1 ≡ o = omega arith in
    let passed = passes_below-at (tells_month_day leap) (cond leap 366 365) (told leap) (o - 1) (omega arith) in
    let here : tells_month_day leap (o - 1) ≡ true = passed in
    let p = and_parts (nat_eq ((67 * even_day leap (o - 1 + 1) + 2080) / 2048) (month_of_ordinal leap (o - 1 + 1))) (nat_eq ((67 * even_day leap (o - 1 + 1) + 2080) % 2048 / 67 + 1) (day_of_ordinal leap (o - 1 + 1))) here in
    rw (← back) (grind (arith, nat_tests, p.0), grind (arith, nat_tests, p.1))

-- the days before each month
abbrev tells_start : Bool → ℕ → Bool
tells_start leap n =
    nat_eq ((489 * (n + 1) - 480) / 16) (days_of_months_in leap n + cond (nat_lt 1 n) (cond leap 1 2) 0)

starts_told : (leap : Bool) → passes_below (tells_start leap) 13 ≡ true
unfolding passes_below days_of_months_in
starts_told true = refl
starts_told false = refl

pub days_of_months_in-told : (leap : Bool) (m : ℕ) → IsInRange 1 13 m → (489 * m - 480) / 16 ≡ days_of_months_in leap (m - 1) + cond (nat_lt 2 m) (cond leap 1 2) 0
days_of_months_in-told leap m h =
    let back : m - 1 + 1 ≡ m = omega arith in
    let passed = passes_below-at (tells_start leap) 13 (starts_told leap) (m - 1) (omega arith) in
    let here = rw back at passed in
    grind (arith, nat_tests)
