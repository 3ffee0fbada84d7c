-- The weeks of a year by the place of a day in its year and by its weekday.
use Rattle.std.proofs.Common.{◌≡◌, ◌≢◌, ℕ, zero, suc, ◌+◌, ◌-◌, ◌/◌, ◌%◌, ◌<◌, ◌≤◌, ◌==◌, Bool, true, false, ◌⊎◌, inl, inr, Option, Some, refl, ap, sym, ◌∙◌, arith, ℤ, pos, ◌+ℤ◌, ◌-ℤ◌}
use Rattle.std.proofs.lemmas.Bool.Decides.{nat_tests}
use Rattle.std.specs.Cmp.Derive.{both_true}
use Rattle.chrono_calendar.proofs.CountWhere.{count_where-next, count_where-no_days, count_where-sum, one_if}
use Rattle.chrono_calendar.proofs.Dates.{is_ordinal_name-test, is_year-test}
use Rattle.chrono_calendar.proofs.IsoWeeks.{days_from_monday-of, days_from_sunday_of-bound}
use Rattle.chrono_calendar.proofs.NamedDates.{number-ordinal_name}
use Rattle.chrono_calendar.proofs.Names.{ordinal_name_of-number, year_length_bounds}
use Rattle.chrono_calendar.proofs.Signed.{signed}
use Rattle.chrono_datetime.specs.Days.{date_of_yo, day_number_of_yo, ordinal_of, year_of}
use Rattle.chrono_datetime.specs.Recurrence.{count_where}
use Rattle.chrono_datetime.specs.Weekday.{days_from_monday, days_from_sunday, number_from_monday}
use Rattle.chrono_datetime.specs.Weeks.{days_from_sunday_of, weekday_of}
use Rattle.chrono_datetime.specs.Years.{IsYear}
use Rattle.chrono_pattern.specs.YearWeeks.{week_from_monday, week_from_sunday, weeks_begun}

-- a day counts if it is the one that is looked for
counts_one : (a w : ℕ) → ((a ≡ w) × (one_if (a == w) ≡ 1)) ⊎ ((a ≢ w) × (one_if (a == w) ≡ 0))
counts_one a w = by_test (a == w) refl
  where
    by_test : (b : Bool) → (a == w) ≡ b → ((a ≡ w) × (one_if (a == w) ≡ 1)) ⊎ ((a ≢ w) × (one_if (a == w) ≡ 0))
    by_test true e = inl (grind (arith, nat_tests), ap one_if e)
    by_test false e = inr (grind (arith, nat_tests), ap one_if e)

-- how many of the k days up to n lie so many days after a Sunday
counted : (w k : ℕ) (n : ℤ) → w < 7
    → count_where (λ d. days_from_sunday_of d == w) k (n +ℤ pos 1 -ℤ pos k) ≡ (k + 6 - (days_from_sunday_of n + 7 - w) % 7) / 7
counted w zero n small =
    omega (arith, count_where-no_days (λ d. days_from_sunday_of d == w) (n +ℤ pos 1 -ℤ pos zero))
counted w (suc k) n small =
    let p = λ (d : ℤ). days_from_sunday_of d == w in
    let first : ℤ = n +ℤ pos 1 -ℤ pos (suc k) in
    let next : ℤ = n +ℤ pos 1 -ℤ pos k in
    let sum = count_where-sum p 1 k (suc k) first next (omega arith) (omega (arith, signed)) in
    let one = count_where-next p 0 1 first first refl (omega (arith, signed)) in
    let none = count_where-no_days p first in
    let rest = counted w k n small in
    elim (counts_one (days_from_sunday_of first) w) [
      | inl hit ↦ omega (arith, signed, sum, one, none, rest, small, hit.0, hit.1)
      | inr miss ↦ omega (arith, signed, sum, one, none, rest, small, miss.0, miss.1)
    ]

pub weeks_begun_is : (start : ℕ) (n : ℤ) → start < 7
    → weeks_begun start n ≡ (ordinal_of n + 6 - (number_from_monday (weekday_of n) + 7 - start) % 7) / 7
unfolding weeks_begun
weeks_begun_is start n small =
    omega (arith, counted start (ordinal_of n) n small, days_from_monday-of n, days_from_sunday_of-bound n, small)

pub week_from_sunday_is : (n : ℤ) → week_from_sunday n ≡ (ordinal_of n + 6 - days_from_sunday (weekday_of n)) / 7
week_from_sunday_is n = omega (arith, weeks_begun_is 0 n (omega arith))

pub week_from_monday_is : (n : ℤ) → week_from_monday n ≡ (ordinal_of n + 6 - days_from_monday (weekday_of n)) / 7
week_from_monday_is n = omega (arith, weeks_begun_is 1 n (omega arith), days_from_monday-of n, days_from_sunday_of-bound n)

-- the place of a day in its year
pub ordinal_bounds : (n : ℤ) → (0 < ordinal_of n) × (ordinal_of n ≤ 366)
ordinal_bounds n = omega (arith, (ordinal_name_of-number n).exists, year_length_bounds (year_of n))

pub weekday_bounds : (n : ℤ) → (0 < number_from_monday (weekday_of n)) × (number_from_monday (weekday_of n) ≤ 7)
weekday_bounds n = omega (arith, days_from_monday-of n)

-- from the weekday of the year's first day to that of the day
pub first_place : (n : ℤ) → (days_from_sunday_of (day_number_of_yo (year_of n) 1) + ordinal_of n + 6) % 7 ≡ number_from_monday (weekday_of n) % 7
first_place n = omega (arith, signed, number-ordinal_name n, days_from_monday-of n)

-- each year of the library has a first day
pub first_day_found : (y : ℤ) → IsYear y → date_of_yo y 1 ≡ Some (day_number_of_yo y 1)
unfolding date_of_yo
first_day_found y year =
    let named = is_ordinal_name-test y 1 (omega (arith, year_length_bounds y)) in
    rw (both_true (is_year-test y year) named) refl

-- a year has at most 54 weeks
pub weeks_few : (start : ℕ) (n : ℤ) → start < 7 → weeks_begun start n ≤ 1_000_000
weeks_few start n small = omega (arith, weeks_begun_is start n small, ordinal_bounds n)

-- the place in the year that a week and a weekday name
pub place_found : (n : ℤ) (start first week weekday : ℕ) (found : Option ℕ) → start < 7
    → ((ordinal : ℕ) → 0 < ordinal → ordinal ≤ 366 → 0 < weekday → weekday ≤ 7 → (first + ordinal + 6) % 7 ≡ weekday % 7 → week ≡ (ordinal + 6 - (weekday + 7 - start) % 7) / 7 → found ≡ Some ordinal)
    → first ≡ days_from_sunday_of (day_number_of_yo (year_of n) 1) → week ≡ weeks_begun start n → weekday ≡ number_from_monday (weekday_of n)
    → found ≡ Some (ordinal_of n)
place_found n start first week weekday found small named at-first at-week at-weekday =
    let o = ordinal_of n in
    let place = ordinal_bounds n in
    let days = weekday_bounds n in
    named o place.0 place.1 (omega (arith, at-weekday, days)) (omega (arith, at-weekday, days))
    (ap (λ (k : ℕ). (k + o + 6) % 7) at-first ∙ first_place n ∙ ap (λ (k : ℕ). k % 7) (sym at-weekday))
    (at-week ∙ weeks_begun_is start n small ∙ ap (λ (k : ℕ). (o + 6 - (k + 7 - start) % 7) / 7) (sym at-weekday))
