-- Each whole number has one ordinal name, in order.
use Rattle.std.proofs.Common.{◌≡◌, ℕ, zero, suc, ◌+◌, ◌-◌, ◌<◌, ◌≤◌, nat_lt, refl, sym, ap, ◌∙◌, arith, ℤ, pos, negsuc, neg_ℤ, ◌+ℤ◌, ◌-ℤ◌, ◌≤ℤ◌, ◌<ℤ◌}
use Rattle.std.proofs.lemmas.Bool.{cond_both}
use Rattle.std.proofs.lemmas.Bool.Decides.{nat_tests}
use Rattle.std.proofs.lemmas.Int.{by_lt_z}
use Rattle.chrono_units.specs.Years.{year_length, IsYear}
use Rattle.chrono_calendar.specs.Days.{days_of_years, days_before_year, IsDate, IsOrdinalName, day_number_of_yo, OrdinalName, next_day, previous_day, days_after_zero, days_before_zero, ordinal_name_of, year_of, ordinal_of}
use Rattle.chrono_text.proofs.Signed.{signed}
use Rattle.chrono_calendar.proofs.Years.{days_of_years-to_year, days_before_year-to_year, days_before_year-next, days_before_year-closed}
use borrow.Author.Differences.{up, down}

-- the number n is that of the day a
pub record HasOrdinalName (n : ℤ) (a : OrdinalName) : Type 0 where
  pub exists : IsOrdinalName a.year a.ordinal
  pub number : n ≡ day_number_of_yo a.year a.ordinal

pub year_length_bounds : (y : ℤ) → (365 ≤ year_length y) × (year_length y ≤ 366)
year_length_bounds y = grind arith

-- a later year begins after the days of this one
pub days_before_year-later : (y later : ℤ) → y <ℤ later → (days_before_year y +ℤ pos (year_length y)) ≤ℤ days_before_year later
days_before_year-later y later h =
    let k = up later + down y - (down later + up y + 1) in
    let last : later -ℤ pos 1 ≡ y +ℤ pos k = omega (arith, signed) in
    omega (arith, signed, days_before_year-next y (y +ℤ pos 1) refl, days_before_year-to_year y (y +ℤ pos 1) refl, days_before_year-to_year (later -ℤ pos 1) later (omega (arith, signed)), days_of_years-to_year y (y +ℤ pos 1) k (later -ℤ pos 1) refl last)

-- the order of names is that of numbers
pub day_number-lt_year : (y later : ℤ) (o p : ℕ) → IsOrdinalName y o → IsOrdinalName later p → y <ℤ later → day_number_of_yo y o <ℤ day_number_of_yo later p
day_number-lt_year y later o p h k lt = omega (arith, signed, days_before_year-later y later lt)

same_year : (y z : ℤ) (o p : ℕ) → IsOrdinalName y o → IsOrdinalName z p → day_number_of_yo y o ≡ day_number_of_yo z p → y ≡ z
same_year y z o p h k e =
    by_lt_z y z (λ lt. absurd (omega (arith, signed, day_number-lt_year y z o p h k lt)))
    (λ le. by_lt_z z y (λ lt. absurd (omega (arith, signed, day_number-lt_year z y p o k h lt))) (λ le2. omega (arith, signed)))

same_ordinal : (y z : ℤ) (o p : ℕ) → y ≡ z → day_number_of_yo y o ≡ day_number_of_yo z p → o ≡ p
same_ordinal y z o p e f = omega (arith, signed, ap days_before_year e)

same_parts : (y z : ℤ) (o p : ℕ) → y ≡ z → o ≡ p → (let a : OrdinalName = record { year = y; ordinal = o } in let b : OrdinalName = record { year = z; ordinal = p } in a ≡ b)
same_parts y z o p e f = cc

-- a number has one ordinal name at most
one_name : (n : ℤ) (a b : OrdinalName) → HasOrdinalName n a → HasOrdinalName n b → a ≡ b
one_name n a b h k =
    let numbers : day_number_of_yo a.year a.ordinal ≡ day_number_of_yo b.year b.ordinal = sym h.number ∙ k.number in
    let years : a.year ≡ b.year = same_year a.year b.year a.ordinal b.ordinal h.exists k.exists numbers in
    same_parts a.year b.year a.ordinal b.ordinal years (same_ordinal a.year b.year a.ordinal b.ordinal years numbers)

next_day-number : (n m : ℤ) (a : OrdinalName) → m ≡ n +ℤ pos 1 → HasOrdinalName n a → HasOrdinalName m (next_day a)
next_day-number n m a e h =
    cond_both (nat_lt a.ordinal (year_length a.year)) _ _ (HasOrdinalName m)
    (λ t. record {
      exists = (omega arith, grind (arith, nat_tests));
      number = omega (arith, signed);
    })
    (λ t. record {
      exists = (omega arith, omega (arith, year_length_bounds (a.year +ℤ pos 1)));
      number =
          let full : year_length a.year ≤ a.ordinal = grind (arith, nat_tests) in
          omega (arith, signed, days_before_year-next a.year (a.year +ℤ pos 1) refl);
    })

previous_day-number : (n m : ℤ) (a : OrdinalName) → n ≡ m +ℤ pos 1 → HasOrdinalName n a → HasOrdinalName m (previous_day a)
previous_day-number n m a e h =
    cond_both (nat_lt 1 a.ordinal) _ _ (HasOrdinalName m)
    (λ t.
    let later : 1 < a.ordinal = grind (arith, nat_tests) in
    record { exists = (omega arith, omega (arith, h.exists)); number = omega (arith, signed) })
    (λ t.
    let first : a.ordinal ≤ 1 = grind (arith, nat_tests) in
    record {
      exists = (omega (arith, year_length_bounds (a.year -ℤ pos 1)), omega arith);
      number = omega (arith, signed, days_before_year-next (a.year -ℤ pos 1) a.year (omega (arith, signed)));
    })

zero_name : (let a : OrdinalName = record { year = pos 0; ordinal = 366 } in HasOrdinalName (pos 0) a)
unfolding days_before_year days_of_years
zero_name = record { exists = (omega arith, omega arith); number = refl }

days_after_zero-number : (n : ℕ) → HasOrdinalName (pos n) (days_after_zero n)
unfolding days_after_zero
days_after_zero-number zero = zero_name
days_after_zero-number (suc n) = next_day-number (pos n) (pos (suc n)) (days_after_zero n) (omega (arith, signed)) (days_after_zero-number n)

days_before_zero-number : (n : ℕ) → HasOrdinalName (neg_ℤ (pos n)) (days_before_zero n)
unfolding days_before_zero
days_before_zero-number zero = zero_name
days_before_zero-number (suc n) = previous_day-number (neg_ℤ (pos n)) (negsuc n) (days_before_zero n) (omega (arith, signed)) (days_before_zero-number n)

-- each number has its name
pub ordinal_name_of-number : (n : ℤ) → HasOrdinalName n (ordinal_name_of n)
unfolding ordinal_name_of
ordinal_name_of-number (pos n) = days_after_zero-number n
ordinal_name_of-number (negsuc n) = days_before_zero-number (suc n)

-- and the name of a name's number is that name
ordinal_name_of-day_number : (a : OrdinalName) → IsOrdinalName a.year a.ordinal → ordinal_name_of (day_number_of_yo a.year a.ordinal) ≡ a
ordinal_name_of-day_number a h =
    one_name (day_number_of_yo a.year a.ordinal) (ordinal_name_of (day_number_of_yo a.year a.ordinal)) a (ordinal_name_of-number (day_number_of_yo a.year a.ordinal)) (record { exists = h; number = refl })

-- the same for a record of any type that is made of a year and an ordinal
pub fields_from_number : {R : Type 0} (y : ℤ) (o : ℕ) → IsOrdinalName y o → (made : ℤ → ℕ → R) → made (year_of (day_number_of_yo y o)) (ordinal_of (day_number_of_yo y o)) ≡ made y o
fields_from_number y o h made = ap (λ a. made a.year a.ordinal) (ordinal_name_of-day_number (record { year = y; ordinal = o }) h)

-- the name of a number that a name is known of
pub year_of-number : (n y : ℤ) (o : ℕ) → day_number_of_yo y o ≡ n → IsOrdinalName y o → year_of n ≡ y
year_of-number n y o e h = rw (← e) (fields_from_number y o h (λ a b. a))

pub ordinal_of-number : (n y : ℤ) (o : ℕ) → day_number_of_yo y o ≡ n → IsOrdinalName y o → ordinal_of n ≡ o
ordinal_of-number n y o e h = rw (← e) (fields_from_number y o h (λ a b. b))

-- the first and the last of the years begin and end at the first and the last of the numbers
days_before_year_low : (y : ℤ) → neg_ℤ (pos 262_143) ≤ℤ y → neg_ℤ (pos 95_746_130) ≤ℤ days_before_year y
days_before_year_low y h = omega (arith, signed, days_before_year-closed y)

days_before_year_high : (y : ℤ) → y ≤ℤ pos 262_143 → days_before_year y ≤ℤ pos 95_745_399
days_before_year_high y h = omega (arith, signed, days_before_year-closed y)

pub day_number_in_range : (y : ℤ) (o : ℕ) → IsYear y → IsOrdinalName y o → IsDate (day_number_of_yo y o)
day_number_in_range y o h k = (
  omega (arith, signed, days_before_year_low y h.0),
  omega (arith, signed, days_before_year-next y (y +ℤ pos 1) refl, days_before_year_high (y +ℤ pos 1) (omega (arith, signed, h.1))),
)

year_before_first : (y : ℤ) → y ≤ℤ neg_ℤ (pos 262_143) → days_before_year y ≤ℤ neg_ℤ (pos 95_746_130)
year_before_first y h = omega (arith, signed, days_before_year-closed y)

year_after_last : (y : ℤ) → pos 262_143 ≤ℤ y → pos 95_745_399 ≤ℤ days_before_year y
year_after_last y h = omega (arith, signed, days_before_year-closed y)

-- a number in the range has its year in the range
pub year_in_range : (y : ℤ) (o : ℕ) → IsOrdinalName y o → IsDate (day_number_of_yo y o) → IsYear y
year_in_range y o k h = (
  by_lt_z y (neg_ℤ (pos 262_143)) (λ lt. absurd (omega (arith, signed, days_before_year-next y (y +ℤ pos 1) refl, year_before_first (y +ℤ pos 1) (omega (arith, signed)), h.0))) (λ le. le),
  by_lt_z (pos 262_142) y (λ lt. absurd (omega (arith, signed, year_after_last y (omega (arith, signed)), h.1))) (λ le. le),
)
