-- The whole years between two days, from the years and the order of the days in them.
use Rattle.std.proofs.Common.{◌≡◌, ℕ, ◌+◌, ◌-◌, ◌*◌, ◌<◌, ◌≤◌, inl, inr, Bool, true, false, cond, nat_lt, Some, None, refl, sym, ap, ◌∙◌, arith, ℤ, pos, ◌-ℤ◌, ◌≤ℤ◌, ◌<ℤ◌, unsigned_abs, int_lt}
use mir.Val.{bool_byte}
use Rattle.std.proofs.lemmas.Bool.Decides.{nat_tests}
use Rattle.std.proofs.lemmas.Bool.{cases_order, ltb-true}
use Rattle.std.proofs.lemmas.Int.{ints, by_lt_z}
use Rattle.chrono_units.specs.Years.{is_leap_year}
use Rattle.chrono_calendar.specs.Days.{day_number_of_ymd, year_of, month_of, day_of}
use Rattle.chrono_calendar.specs.YearsBetween.{is_earlier_in_year, years_between}
use Rattle.chrono_text.proofs.Signed.{signed}
use Rattle.chrono_calendar.proofs.Months.{month_length_in-bounds}
use Rattle.chrono_calendar.proofs.Order.{earlier_year, earlier_month, same_month}
use Rattle.chrono_calendar.proofs.NamedDates.{calendar_name-exists, number-calendar_name}

-- the order of days in a year by one number
is_earlier_in_year-code : (m d p q : ℕ) → d < 32 → q < 32 → nat_lt (m * 32 + d) (p * 32 + q) ≡ is_earlier_in_year m d p q
is_earlier_in_year-code m d p q h k = grind (arith, nat_tests)

-- the number that the order is read from
abbrev pub place : ℤ → ℕ
place n = month_of n * 32 + day_of n

place_bounds : (n : ℤ) → (1 ≤ month_of n) × (month_of n ≤ 12) × (1 ≤ day_of n) × (day_of n < 32)
place_bounds n =
    let h = calendar_name-exists n in
    (omega (arith, h.0), omega (arith, h.0), omega (arith, h.1), omega (arith, h.1, month_length_in-bounds (is_leap_year (year_of n)) (month_of n)))

before_place : (n base : ℤ) → year_of n ≡ year_of base → place n < place base → n <ℤ base
before_place n base e h =
    elim (cases_order (month_of n) (month_of base)) [
      | inl same ↦ (same_month n base e same).0 (omega arith)
      | inr apart ↦ elim apart [
        | inl lt ↦ earlier_month n base e lt
        | inr gt ↦ absurd (omega (arith, place_bounds n, place_bounds base))
      ]
    ]

not_before_place : (n base : ℤ) → year_of n ≡ year_of base → place base ≤ place n → base ≤ℤ n
not_before_place n base e h =
    elim (cases_order (place base) (place n)) [
      | inl same ↦
          let month : month_of base ≡ month_of n = omega (arith, same, place_bounds n, place_bounds base) in
          omega (arith, signed, (same_month base n (sym e) month).1 (omega (arith, same, month)))
      | inr apart ↦ elim apart [
        | inl lt ↦ omega (arith, signed, before_place base n (sym e) lt)
        | inr gt ↦ absurd (omega arith)
      ]
    ]

-- the years as the code counts them: less one if the first day comes earlier in its year
abbrev pub years_counted : ℤ → ℤ → Bool → ℤ
years_counted y z earlier = y -ℤ z -ℤ pos (bool_byte earlier)

before_counted : (n base : ℤ) (e : Bool) → nat_lt (place n) (place base) ≡ e → years_counted (year_of n) (year_of base) e <ℤ pos 0 → n <ℤ base
before_counted n base true t h =
    by_lt_z (year_of n) (year_of base) (earlier_year n base) (λ ge. before_place n base (omega (arith, signed)) (ltb-true (place n) (place base) t))
before_counted n base false t h = earlier_year n base (omega (arith, signed))

not_before_counted : (n base : ℤ) (e : Bool) → nat_lt (place n) (place base) ≡ e → pos 0 ≤ℤ years_counted (year_of n) (year_of base) e → base ≤ℤ n
not_before_counted n base true t h = omega (arith, signed, earlier_year base n (omega (arith, signed)))
not_before_counted n base false t h =
    by_lt_z (year_of base) (year_of n) (λ lt. omega (arith, signed, earlier_year base n lt))
    (λ ge. not_before_place n base (omega (arith, signed)) (grind (arith, nat_tests, t)))

-- none, if that is negative
pub years_between-None : (n base : ℤ) → years_counted (year_of n) (year_of base) (nat_lt (place n) (place base)) <ℤ pos 0 → None ≡ years_between n base
unfolding years_between
years_between-None n base h =
    let before = before_counted n base (nat_lt (place n) (place base)) refl h in
    let test : int_lt n base ≡ true = grind (arith, ints, before) in
    rw test refl

counted_value : (k : ℕ) (y z : ℤ) (e : Bool) → pos k ≡ years_counted y z e → k ≡ cond e (unsigned_abs (y -ℤ z) - 1) (unsigned_abs (y -ℤ z))
counted_value k y z true h = omega (arith, signed)
counted_value k y z false h = omega (arith, signed)

-- and else those years
pub years_between-Some : (n base : ℤ) (k : ℕ) → pos k ≡ years_counted (year_of n) (year_of base) (nat_lt (place n) (place base)) → Some k ≡ years_between n base
unfolding years_between
years_between-Some n base k h =
    let after = not_before_counted n base (nat_lt (place n) (place base)) refl (omega (arith, signed)) in
    let test : int_lt n base ≡ false = grind (arith, ints, after) in
    let earlier = is_earlier_in_year-code (month_of n) (day_of n) (month_of base) (day_of base) (omega (arith, place_bounds n)) (omega (arith, place_bounds base)) in
    rw (test, ← earlier) (ap Some (counted_value k (year_of n) (year_of base) (nat_lt (place n) (place base)) h))

-- the name of a day has its number
pub number-named : (n y : ℤ) (m d : ℕ) → y ≡ year_of n → m ≡ month_of n → d ≡ day_of n → day_number_of_ymd y m d ≡ n
number-named n y m d year month day = ap (λ z. day_number_of_ymd z m d) year ∙ ap (λ i. day_number_of_ymd (year_of n) i d) month ∙ ap (day_number_of_ymd (year_of n) (month_of n)) day ∙ number-calendar_name n
