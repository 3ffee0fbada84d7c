-- The leap years before a year of a cycle of 400 years, and the days that they make.
use Rattle.std.proofs.Common.{◌≡◌, ℕ, zero, suc, ◌+◌, ◌*◌, ◌<◌, ◌≤◌, inl, inr, refl, ap, arith, pos, ◌+ℤ◌}
use Rattle.std.proofs.lemmas.Bool.{cases_order}
use Rattle.chrono_calendar.specs.Days.{days_before_year, days_of_years}
use Rattle.chrono_calendar.proofs.Signed.{signed}
use Rattle.chrono_calendar.proofs.Years.{leap_day, year_length-leap_day, days_before_year-next}
use Rattle.chrono_internals.specs.Tables.{leap_years_before}

pub leap_years_before-suc : (n : ℕ) → leap_years_before (suc n) ≡ leap_years_before n + leap_day (pos n)
unfolding leap_years_before
leap_years_before-suc n = grind arith

-- the days before a year from 0 on, counted from year 0
pub days_before_year-natural : (n : ℕ) → days_before_year (pos n) +ℤ pos 366 ≡ pos (365 * n + leap_years_before n)
days_before_year-natural zero = unfold days_before_year days_of_years leap_years_before in refl
days_before_year-natural (suc n) =
    omega (arith, signed, days_before_year-natural n, leap_years_before-suc n, days_before_year-next (pos n) (pos (suc n)) (omega (arith, signed)), year_length-leap_day (pos n))

pub leap_years_before-positive : (n : ℕ) → 0 < leap_years_before n → 1 ≤ n
leap_years_before-positive zero h = let none : leap_years_before 0 ≡ 0 = unfold leap_years_before in refl in absurd (omega arith)
leap_years_before-positive (suc n) h = omega arith

leap_years_before-cycle : leap_years_before 400 ≡ 97
unfolding leap_years_before
leap_years_before-cycle = refl

-- a year of the cycle that has as many days left as leap years before it is not the year 400
pub leap_years_before-inside : (n rest : ℕ) → 365 * n + rest < 146_097 → leap_years_before n ≤ rest → n < 400
leap_years_before-inside n rest h k =
    elim (cases_order n 400) [
      | inl same ↦ absurd (omega (arith, ap leap_years_before same, leap_years_before-cycle))
      | inr apart ↦ elim apart [ inl lt ↦ lt | inr gt ↦ absurd (omega arith) ]
    ]
