-- Day numbers and ordinal names, counted from a start far enough back that no number is negative.
use Rattle.std.proofs.Common.{◌≡◌, ℕ, ◌+◌, ◌-◌, ◌*◌, ◌/◌, ◌<◌, refl, arith, ℤ, pos, neg_ℤ, ◌+ℤ◌, ◌≤ℤ◌}
use Rattle.chrono_calendar.specs.Days.{days_before_year, IsOrdinalName, day_number_of_yo}
use Rattle.chrono_calendar.proofs.Signed.{signed}
use Rattle.chrono_calendar.proofs.Years.{days_before_year-closed, days_before_year-next}
use Rattle.chrono_calendar.proofs.IsoWeeks.{days_before_year-counted}

-- the name of the day that n days of the count precede: p years, and d days of the year after them
pub ordinal_name-counted : (days y : ℤ) (n p d : ℕ) → pos n +ℤ pos 1 ≡ days +ℤ pos 95_839_632 → pos p +ℤ pos 1 ≡ y +ℤ pos 262_400 → 365 * p + p / 4 + p / 400 + d ≡ n + p / 100 → n + (p + 1) / 100 < 365 * (p + 1) + (p + 1) / 4 + (p + 1) / 400 → IsOrdinalName y (d + 1) × (day_number_of_yo y (d + 1) ≡ days)
ordinal_name-counted days y n p d start years place in_year =
    let before = days_before_year-counted y p (n - d) (omega (arith, signed)) (omega arith) in
    let to_next = 365 * (p + 1) + (p + 1) / 4 + (p + 1) / 400 - (p + 1) / 100 in
    let after = days_before_year-counted (y +ℤ pos 1) (p + 1) to_next (omega (arith, signed)) (omega arith) in
    let next = days_before_year-next y (y +ℤ pos 1) refl in
    ((omega arith, omega (arith, signed, before, after, next)), omega (arith, signed, before))

-- the days before a year of the range, or before one of the two years after its last
pub days_before_year-range : (y : ℤ) (days : ℕ) → neg_ℤ (pos 262_143) ≤ℤ y → y ≤ℤ pos 262_144 → pos days ≡ days_before_year y +ℤ pos 95_839_632 → days < 192_000_000
days_before_year-range y days low high e = omega (arith, signed, days_before_year-closed y)
