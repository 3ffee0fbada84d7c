-- A year read from March to February: which day of the calendar year stands where, and the linear formulas of its months.
use Rattle.std.proofs.Common.{◌≡◌, ℕ, ◌+◌, ◌-◌, ◌*◌, ◌/◌, ◌%◌, ◌<◌, ◌≤◌, Bool, true, false, ◌&&◌, cond, nat_eq, nat_lt, refl, sym, arith, min, ℤ, pos, ◌+ℤ◌, ◌-ℤ◌}
use Rattle.std.proofs.Math.Nat.{le-min}
use Rattle.std.proofs.lemmas.Bool.{and_parts}
use Rattle.std.proofs.lemmas.Bool.Decides.{nat_tests}
use Rattle.std.specs.Int.{IsInRange}
use Rattle.chrono_units.specs.Years.{is_leap_year, month_length_in, month_length, year_length}
use Rattle.chrono_calendar.specs.Days.{days_before_year, days_of_months_in, month_of_ordinal, day_of_ordinal, IsOrdinalName, day_number_of_yo, day_number_of_ymd, year_of, month_of, day_of}
use Rattle.chrono_calendar.proofs.Signed.{signed}
use Rattle.chrono_calendar.proofs.Names.{year_of-number, ordinal_of-number}
use Rattle.chrono_calendar.proofs.Tests.{passes_below, passes_below-at}
use Rattle.chrono_calendar.proofs.Years.{days_before_year-next}
use Rattle.chrono_stored.proofs.DayNumbers.{ordinal_name-counted}

-- the days of January and February
abbrev days_to_march : Bool → ℕ
days_to_march leap = cond leap 60 59

-- the place from 1 March of the day that n days of the year precede, and what is to be taken from its month
abbrev place : Bool → ℕ → ℕ
place leap n = cond (nat_lt n (days_to_march leap)) (n + 306) (n - days_to_march leap)

abbrev months_ahead : Bool → ℕ → ℕ
months_ahead leap n = cond (nat_lt n (days_to_march leap)) 12 0

abbrev tells_march : Bool → ℕ → Bool
tells_march leap n =
    let scaled = 2141 * place leap n + 197_913 in
    nat_eq (scaled / 65_536) (month_of_ordinal leap (n + 1) + months_ahead leap n) && nat_eq (scaled % 65_536 / 2141 + 1) (day_of_ordinal leap (n + 1))

told : (leap : Bool) → passes_below (tells_march leap) (cond leap 366 365) ≡ true
unfolding passes_below days_of_months_in month_of_ordinal day_of_ordinal
told true = refl
told false = refl

told-at : (leap : Bool) (n : ℕ) → n < cond leap 366 365 → ((2141 * place leap n + 197_913) / 65_536 ≡ month_of_ordinal leap (n + 1) + months_ahead leap n) × ((2141 * place leap n + 197_913) % 65_536 / 2141 + 1 ≡ day_of_ordinal leap (n + 1))
told-at leap n h =
    let here : tells_march leap n ≡ true = passes_below-at (tells_march leap) (cond leap 366 365) (told leap) n h in
    let p = and_parts (nat_eq ((2141 * place leap n + 197_913) / 65_536) (month_of_ordinal leap (n + 1) + months_ahead leap n)) (nat_eq ((2141 * place leap n + 197_913) % 65_536 / 2141 + 1) (day_of_ordinal leap (n + 1))) here in
    (grind (arith, nat_tests, p.0), grind (arith, nat_tests, p.1))

-- from March to December: the day d after 1 March, in the calendar year that March stands in
month_from_march : (leap : Bool) (d : ℕ) → d < 306 → ((2141 * d + 197_913) / 65_536 ≡ month_of_ordinal leap (d + days_to_march leap + 1)) × ((2141 * d + 197_913) % 65_536 / 2141 + 1 ≡ day_of_ordinal leap (d + days_to_march leap + 1))
month_from_march true d h = let told = told-at true (d + 60) (omega arith) in (grind (arith, nat_tests, told.0), grind (arith, nat_tests, told.1))
month_from_march false d h = let told = told-at false (d + 59) (omega arith) in (grind (arith, nat_tests, told.0), grind (arith, nat_tests, told.1))

-- January and February: of the calendar year after
month_to_march : (leap : Bool) (d : ℕ) → 306 ≤ d → d < 306 + days_to_march leap → ((2141 * d + 197_913) / 65_536 ≡ month_of_ordinal leap (d - 306 + 1) + 12) × ((2141 * d + 197_913) % 65_536 / 2141 + 1 ≡ day_of_ordinal leap (d - 306 + 1))
month_to_march true d h k = let told = told-at true (d - 306) (omega arith) in (grind (arith, nat_tests, told.0), grind (arith, nat_tests, told.1))
month_to_march false d h k = let told = told-at false (d - 306) (omega arith) in (grind (arith, nat_tests, told.0), grind (arith, nat_tests, told.1))

-- the day has this calendar name
pub record HasCalendarName (days y : ℤ) (m d : ℕ) : Type 0 where
  pub year : year_of days ≡ y
  pub month : month_of days ≡ m
  pub day : day_of days ≡ d

-- a day by its ordinal name, with the month that is told of it
named_by_ordinal : (days y : ℤ) (o m d : ℕ) → day_number_of_yo y o ≡ days → IsOrdinalName y o → m ≡ month_of_ordinal (is_leap_year y) o → d ≡ day_of_ordinal (is_leap_year y) o → HasCalendarName days y m d
named_by_ordinal days y o m d number exists month day =
    let year = year_of-number days y o number exists in
    let ordinal = ordinal_of-number days y o number exists in
    record { year = year; month = rw (year, ordinal) (sym month); day = rw (year, ordinal) (sym day) }

days_to_march-rest : (leap : Bool) → days_to_march leap + 306 ≡ cond leap 366 365
days_to_march-rest true = refl
days_to_march-rest false = refl

-- of the day that n days precede, the name is that of the day 306 days later with its months counted from March:
-- p years and d days of the year y precede that one. Its months to December stand in the year before y
pub named-to_december : (days y : ℤ) (n p d : ℕ) → pos n +ℤ pos 1 ≡ days +ℤ pos 95_839_632 → pos p +ℤ pos 1 ≡ y +ℤ pos 262_400 → 365 * p + p / 4 + p / 400 + d ≡ n + 306 + p / 100 → n + 306 + (p + 1) / 100 < 365 * (p + 1) + (p + 1) / 4 + (p + 1) / 400 → d < 306 → HasCalendarName days (y -ℤ pos 1) ((2141 * d + 197_913) / 65_536) ((2141 * d + 197_913) % 65_536 / 2141 + 1)
named-to_december days y n p d start years place in_year early =
    let ahead = ordinal_name-counted (days +ℤ pos 306) y (n + 306) p d (omega (arith, signed)) years place in_year in
    let before = y -ℤ pos 1 in
    let leap = is_leap_year before in
    let rest = days_to_march-rest leap in
    let next = days_before_year-next before y (omega (arith, signed)) in
    let month = month_from_march leap d early in
    named_by_ordinal days before (d + days_to_march leap + 1) _ _ (omega (arith, signed, ahead.1, rest, next)) (omega arith, omega (arith, rest)) month.0 month.1

-- and January and February in that year
pub named-from_january : (days y : ℤ) (n p d : ℕ) → pos n +ℤ pos 1 ≡ days +ℤ pos 95_839_632 → pos p +ℤ pos 1 ≡ y +ℤ pos 262_400 → 365 * p + p / 4 + p / 400 + d ≡ n + 306 + p / 100 → n + 306 + (p + 1) / 100 < 365 * (p + 1) + (p + 1) / 4 + (p + 1) / 400 → 306 ≤ d → HasCalendarName days y ((2141 * d + 197_913) / 65_536 - 12) ((2141 * d + 197_913) % 65_536 / 2141 + 1)
named-from_january days y n p d start years place in_year late =
    let ahead = ordinal_name-counted (days +ℤ pos 306) y (n + 306) p d (omega (arith, signed)) years place in_year in
    let rest = days_to_march-rest (is_leap_year y) in
    let month = month_to_march (is_leap_year y) d late (omega (arith, rest, ahead.0)) in
    named_by_ordinal days y (d - 306 + 1) _ _ (omega (arith, signed, ahead.1)) (omega arith, omega (arith, ahead.0)) (omega (arith, month.0)) month.1

-- the days of a year from March before a month
abbrev tells_month_start : Bool → ℕ → Bool
tells_month_start leap n =
    nat_eq ((979 * cond (nat_lt n 2) (n + 13) (n + 1) - 2919) / 32 + cond (nat_lt n 2) 0 (cond leap 366 365)) (days_of_months_in leap n + 306)

starts-told : (leap : Bool) → passes_below (tells_month_start leap) 12 ≡ true
unfolding passes_below days_of_months_in
starts-told true = refl
starts-told false = refl

starts-told_at : (leap : Bool) (m : ℕ) → IsInRange 1 12 m → tells_month_start leap (m - 1) ≡ true
starts-told_at leap m h = passes_below-at (tells_month_start leap) 12 (starts-told leap) (m - 1) (omega arith)

month_start-march : (leap : Bool) (m : ℕ) → IsInRange 1 12 m → 2 < m → (979 * m - 2919) / 32 + cond leap 366 365 ≡ days_of_months_in leap (m - 1) + 306
month_start-march leap m h late =
    let back : m - 1 + 1 ≡ m = omega arith in
    let here = rw back at (starts-told_at leap m h) in
    grind (arith, nat_tests)

month_start-january : (leap : Bool) (m : ℕ) → IsInRange 1 12 m → m ≤ 2 → (979 * (m + 12) - 2919) / 32 ≡ days_of_months_in leap (m - 1) + 306
month_start-january leap m h early =
    let back : m - 1 + 13 ≡ m + 12 = omega arith in
    let here = rw back at (starts-told_at leap m h) in
    grind (arith, nat_tests)

-- a month ends where the next one begins, or with its year
abbrev tells_month_end : Bool → ℕ → Bool
tells_month_end leap n =
    let month = cond (nat_lt n 2) (n + 13) (n + 1) in
    nat_eq (min ((979 * (month + 1) - 2919) / 32) (cond leap 366 365)) ((979 * month - 2919) / 32 + month_length_in leap (n + 1))

ends-told : (leap : Bool) → passes_below (tells_month_end leap) 12 ≡ true
unfolding passes_below
ends-told true = refl
ends-told false = refl

ends-told_at : (leap : Bool) (m : ℕ) → IsInRange 1 12 m → tells_month_end leap (m - 1) ≡ true
ends-told_at leap m h = passes_below-at (tells_month_end leap) 12 (ends-told leap) (m - 1) (omega arith)

pub month_end-march : (leap : Bool) (m : ℕ) → IsInRange 1 12 m → 2 < m → min ((979 * (m + 1) - 2919) / 32) (cond leap 366 365) ≡ (979 * m - 2919) / 32 + month_length_in leap m
month_end-march leap m h late =
    let back : m - 1 + 1 ≡ m = omega arith in
    let here = rw back at (ends-told_at leap m h) in
    grind (arith, nat_tests)

pub month_end-january : (leap : Bool) (m : ℕ) → IsInRange 1 12 m → m ≤ 2 → min ((979 * (m + 13) - 2919) / 32) (cond leap 366 365) ≡ (979 * (m + 12) - 2919) / 32 + month_length_in leap m
month_end-january leap m h early =
    let back : m - 1 + 1 ≡ m = omega arith in
    let ahead : m - 1 + 13 ≡ m + 12 = omega arith in
    let here = rw (back, ahead) at (ends-told_at leap m h) in
    grind (arith, nat_tests)

-- a place in the year from March, from 1, is that of a day of the month if it comes before the next month and the year's end
pub day_of_month-from_march : (y : ℤ) (m d : ℕ) → IsInRange 1 12 m → 2 < m → (979 * m - 2919) / 32 + d ≤ (979 * (m + 1) - 2919) / 32 → (979 * m - 2919) / 32 + d ≤ year_length y → d ≤ month_length y m
day_of_month-from_march y m d h late next end =
    omega (arith, month_end-march (is_leap_year y) m h late, le-min next end)

pub day_of_month-to_march : (y : ℤ) (m d : ℕ) → IsInRange 1 12 m → m ≤ 2 → (979 * (m + 12) - 2919) / 32 + d ≤ (979 * (m + 13) - 2919) / 32 → (979 * (m + 12) - 2919) / 32 + d ≤ year_length y → d ≤ month_length y m
day_of_month-to_march y m d h early next end =
    omega (arith, month_end-january (is_leap_year y) m h early, le-min next end)

-- the number of a day of a month, by the days of the years that begin in March, and those of the months from there
pub day_number-from_march : (y : ℤ) (m d : ℕ) → IsInRange 1 12 m → 2 < m → day_number_of_ymd y m d +ℤ pos 306 ≡ days_before_year (y +ℤ pos 1) +ℤ pos ((979 * m - 2919) / 32 + d)
day_number-from_march y m d h late =
    omega (arith, signed, days_before_year-next y (y +ℤ pos 1) refl, month_start-march (is_leap_year y) m h late)

pub day_number-to_march : (y : ℤ) (m d : ℕ) → IsInRange 1 12 m → m ≤ 2 → day_number_of_ymd y m d +ℤ pos 306 ≡ days_before_year y +ℤ pos ((979 * (m + 12) - 2919) / 32 + d)
day_number-to_march y m d h early = omega (arith, signed, month_start-january (is_leap_year y) m h early)
