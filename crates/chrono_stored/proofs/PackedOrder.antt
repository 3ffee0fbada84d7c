-- Stored numbers lie as the days that they mean.
use Rattle.std.proofs.Common.{◌≡◌, refl, sym, ◌∙◌, ap, arith, ℤ, ◌<ℤ◌, int_cmp, nat_eq, w32, of_z, to_z}
use Rattle.std.proofs.lemmas.Bool.Decides.{same_from_decides, Decides-eqb, Decides-int_eq}
use Rattle.std.proofs.lemmas.Cmp.{int_ranked}
use Rattle.std.proofs.lemmas.Int.{by_lt_z, to_z-of_z}
use Rattle.std.specs.Cmp.{int_cmp_is}
use Rattle.std.specs.Ordering.{int_eq}
use Rattle.chrono_calendar.specs.Days.{days_before_year, day_number_of_yo, year_of, ordinal_of}
use Rattle.chrono_calendar.specs.Flags.{flags_of_year}
use Rattle.chrono_stored.specs.PackedName.{packed_name, packed_year, packed_ordinal}
use Rattle.chrono_calendar.proofs.Signed.{signed}
use Rattle.chrono_calendar.proofs.Names.{ordinal_name_of-number, year_length_bounds}
use Rattle.chrono_calendar.proofs.Order.{ranked_by, earlier_year}
use Rattle.chrono_stored.proofs.PackedNames.{IsStored, flags_of_year_bounds}

-- the number of an earlier day is smaller: by its year, or in one year by the ordinal
stored-earlier : (a b n m : ℤ) → IsStored a n → IsStored b m → n <ℤ m → a <ℤ b
stored-earlier a b n m h k lt =
    let few = flags_of_year_bounds (year_of n) in
    let long = year_length_bounds (year_of n) in
    by_lt_z (year_of n) (year_of m) (λ earlier. omega (arith, signed, h.number, k.number, few, long, h.exists))
    (λ not_earlier. by_lt_z (year_of m) (year_of n) (λ later. absurd (omega (arith, signed, earlier_year m n later)))
    (λ not_later.
    let same : year_of n ≡ year_of m = omega (arith, signed) in
    omega (arith, signed, ap flags_of_year same, ap days_before_year same, h.number, k.number, (ordinal_name_of-number n).number, (ordinal_name_of-number m).number)))

-- a day has one number
stored-same : (a b n m : ℤ) → IsStored a n → IsStored b m → n ≡ m → a ≡ b
stored-same a b n m h k e = h.number ∙ ap (λ d. packed_name (year_of d) (ordinal_of d)) e ∙ sym k.number

-- and a number one day
stored-day : (a b n m : ℤ) → IsStored a n → IsStored b m → a ≡ b → n ≡ m
stored-day a b n m h k e =
    let years : year_of n ≡ year_of m = sym h.year ∙ ap (λ z. packed_year z) e ∙ k.year in
    let ordinals : ordinal_of n ≡ ordinal_of m = sym h.ordinal ∙ ap (λ z. packed_ordinal z) e ∙ k.ordinal in
    (ordinal_name_of-number n).number ∙ ap (λ y. day_number_of_yo y (ordinal_of n)) years ∙ ap (λ o. day_number_of_yo (year_of m) o) ordinals ∙ sym (ordinal_name_of-number m).number

pub stored-cmp : (a b n m : ℤ) → IsStored a n → IsStored b m → int_cmp a b ≡ int_cmp n m
stored-cmp a b n m h k =
    sym (int_cmp_is a b (int_cmp n m)
    (ranked_by _ _ _ _ _ _ (int_cmp n m) (int_ranked n m (int_cmp n m) refl) (stored-earlier a b n m h k) (stored-same a b n m h k) (stored-earlier b a m n k h)))

-- as machine words too they are equal for one day alone
pub stored-eq : (a b n m : ℤ) → IsStored a n → IsStored b m → nat_eq (of_z w32 a) (of_z w32 b) ≡ int_eq n m
stored-eq a b n m h k =
    let words = Decides-eqb (of_z w32 a) (of_z w32 b) in
    let read : of_z w32 a ≡ of_z w32 b → a ≡ b = λ e. sym (to_z-of_z w32 a h.fits) ∙ ap (to_z w32) e ∙ to_z-of_z w32 b k.fits in
    same_from_decides _ _ (λ e. stored-day a b n m h k (read (words.0 e)), λ e. words.1 (ap (of_z w32) (stored-same a b n m h k e))) (Decides-int_eq n m)
