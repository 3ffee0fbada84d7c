-- The days before a year in closed form.
use Rattle.std.proofs.Common.{◌≡◌, ℕ, zero, suc, ◌+◌, ◌-◌, ◌%◌, cond, refl, ap, arith, ℤ, pos, negsuc, ◌+ℤ◌, ◌-ℤ◌, ◌*ℤ◌, unsigned_abs, ◌<◌}
use Rattle.std.proofs.lemmas.Bool.{cond_both, eqb-true, eqb-false}
use Rattle.std.proofs.lemmas.Bool.Decides.{nat_tests}
use Rattle.std.specs.Int.{int_div_euclid}
use Rattle.chrono_units.specs.Years.{divides, year_length, IsYear}
use Rattle.chrono_calendar.specs.Days.{days_of_years, days_before_year}
use Rattle.chrono_text.proofs.Signed.{signed}
use Rattle.std.proofs.lemmas.Int.{ints}

-- 1 for a leap year, and else 0
abbrev pub leap_day : ℤ → ℕ
leap_day y = year_length y - 365

-- the leap years among the years 1 to p, and for a negative p those of p + 1 to 0, negative
abbrev leap_years_to : ℤ → ℤ
leap_years_to p = int_div_euclid p (pos 4) -ℤ int_div_euclid p (pos 100) +ℤ int_div_euclid p (pos 400)

-- the days from 1 January of year 1 to the end of the year p
unfoldable pub days_to_year : ℤ → ℤ
days_to_year p = pos 365 *ℤ p +ℤ leap_years_to p

pub year_length-leap_day : (y : ℤ) → year_length y ≡ 365 + leap_day y
year_length-leap_day y = grind arith

-- 1 for a year that k divides, and else 0
abbrev multiple : ℕ → ℤ → ℕ
multiple k y = cond (divides k y) 1 0

-- a quotient is one more from one year to the next exactly if the divisor divides the next
fourths-next : (p q : ℤ) → q ≡ p +ℤ pos 1 → int_div_euclid q (pos 4) ≡ int_div_euclid p (pos 4) +ℤ pos (multiple 4 q)
fourths-next p q e =
    cond_both (divides 4 q) 1 0 (λ more. int_div_euclid q (pos 4) ≡ int_div_euclid p (pos 4) +ℤ pos more)
    (λ t. let whole = eqb-true (unsigned_abs q % 4) 0 t in omega (arith, signed))
    (λ t. let rest = eqb-false (unsigned_abs q % 4) 0 t in omega (arith, signed))

hundredths-next : (p q : ℤ) → q ≡ p +ℤ pos 1 → int_div_euclid q (pos 100) ≡ int_div_euclid p (pos 100) +ℤ pos (multiple 100 q)
hundredths-next p q e =
    cond_both (divides 100 q) 1 0 (λ more. int_div_euclid q (pos 100) ≡ int_div_euclid p (pos 100) +ℤ pos more)
    (λ t. let whole = eqb-true (unsigned_abs q % 100) 0 t in omega (arith, signed))
    (λ t. let rest = eqb-false (unsigned_abs q % 100) 0 t in omega (arith, signed))

four_hundredths-next : (p q : ℤ) → q ≡ p +ℤ pos 1 → int_div_euclid q (pos 400) ≡ int_div_euclid p (pos 400) +ℤ pos (multiple 400 q)
four_hundredths-next p q e =
    cond_both (divides 400 q) 1 0 (λ more. int_div_euclid q (pos 400) ≡ int_div_euclid p (pos 400) +ℤ pos more)
    (λ t. let whole = eqb-true (unsigned_abs q % 400) 0 t in omega (arith, signed))
    (λ t. let rest = eqb-false (unsigned_abs q % 400) 0 t in omega (arith, signed))

-- of the years that 4 divides those are not leap that 100 divides and 400 does not
leap_day-multiples : (y : ℤ) → leap_day y + multiple 100 y ≡ multiple 4 y + multiple 400 y
leap_day-multiples y = grind (arith, nat_tests)

-- a year more has the days of that year more
days_to_year-next : (p q : ℤ) → q ≡ p +ℤ pos 1 → days_to_year q ≡ days_to_year p +ℤ pos (year_length q)
unfolding days_to_year
days_to_year-next p q e =
    omega (arith, signed, fourths-next p q e, hundredths-next p q e, four_hundredths-next p q e, leap_day-multiples q, year_length-leap_day q)

-- n years in a row have the difference of the days to their ends
pub days_of_years-to_year : (p y : ℤ) (n : ℕ) (q : ℤ) → y ≡ p +ℤ pos 1 → q ≡ p +ℤ pos n → pos (days_of_years y n) ≡ days_to_year q -ℤ days_to_year p
unfolding days_of_years
days_of_years-to_year p y zero q e f =
    let same : q ≡ p = omega (arith, signed) in rw same (omega (arith, signed))
days_of_years-to_year p y (suc n) q e f =
    let last : q ≡ y +ℤ pos n = omega (arith, signed) in
    let next : y +ℤ pos n ≡ p +ℤ pos n +ℤ pos 1 = omega (arith, signed) in
    omega (arith, signed, days_of_years-to_year p y n (p +ℤ pos n) e refl, days_to_year-next (p +ℤ pos n) (y +ℤ pos n) next, ap days_to_year last)

days_to_year-zero : (days_to_year (pos 0) ≡ pos 0) × (days_to_year (negsuc 0) ≡ negsuc 365)
unfolding days_to_year
days_to_year-zero = (refl, refl)

-- the days before a year are those to the end of the year before
pub days_before_year-to_year : (p y : ℤ) → y ≡ p +ℤ pos 1 → days_before_year y ≡ days_to_year p
unfolding days_before_year
days_before_year-to_year p (pos zero) e =
    let here : p ≡ negsuc 0 = omega (arith, signed) in
    rw here (omega (arith, signed, days_to_year-zero, days_of_years-to_year (negsuc 0) (pos 0) 1 (pos 0) refl refl))
days_before_year-to_year p (pos (suc n)) e =
    let here : p ≡ pos n = omega (arith, signed) in
    rw here (omega (arith, signed, days_to_year-zero, days_of_years-to_year (pos 0) (pos 1) n (pos n) refl (omega (arith, signed))))
days_before_year-to_year p (negsuc n) e =
    omega (arith, signed, days_to_year-zero, days_of_years-to_year p (negsuc n) (n + 2) (pos 0) e (omega (arith, signed)))

-- the closed form
pub days_before_year-closed : (y : ℤ) → days_before_year y ≡ pos 365 *ℤ (y -ℤ pos 1) +ℤ (int_div_euclid (y -ℤ pos 1) (pos 4) -ℤ int_div_euclid (y -ℤ pos 1) (pos 100) +ℤ int_div_euclid (y -ℤ pos 1) (pos 400))
unfolding days_to_year
days_before_year-closed y = days_before_year-to_year (y -ℤ pos 1) y (omega (arith, signed))

-- the next year begins after the days of this one
pub days_before_year-next : (y next : ℤ) → next ≡ y +ℤ pos 1 → days_before_year next ≡ days_before_year y +ℤ pos (year_length y)
days_before_year-next y next e =
    let q : y ≡ (y -ℤ pos 1) +ℤ pos 1 = omega (arith, signed) in
    rw (days_before_year-to_year y next e, days_before_year-to_year (y -ℤ pos 1) y q) (days_to_year-next (y -ℤ pos 1) y q)

-- a year's size has at most six digits
pub IsYear-small : (y : ℤ) → IsYear y → unsigned_abs y < 1_000_000
IsYear-small (pos n) h = omega (arith, ints, h.1)
IsYear-small (negsuc n) h = omega (arith, ints, h.0)
