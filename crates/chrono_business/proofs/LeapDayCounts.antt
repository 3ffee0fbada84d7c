-- The days of leap years before a day, counted day by day; and the others.
use Rattle.std.proofs.Common.{◌≡◌, ℕ, zero, suc, ◌+◌, ◌-◌, ◌<◌, ◌≤◌, Bool, true, false, not, nat_lt, cond, ◌⊎◌, inl, inr, refl, sym, ap, ◌∙◌, arith, ℤ, pos, negsuc, ◌+ℤ◌, ◌-ℤ◌, ◌*ℤ◌, unsigned_abs}
use Rattle.std.proofs.lemmas.Int.{by_lt_z}
use Rattle.chrono_datetime.specs.Years.{is_leap_year, year_length}
use Rattle.chrono_datetime.specs.Days.{IsOrdinalName, OrdinalName, days_after_zero, days_before_zero, ordinal_name_of, year_of, ordinal_of}
use Rattle.chrono_datetime.specs.Recurrence.{count_between, count_where}
use Rattle.chrono_datetime.proofs.Signed.{signed}
use Rattle.chrono_datetime.proofs.Names.{ordinal_name_of-number}
use Rattle.chrono_datetime.proofs.CountWhere.{count_where-next, count_where-no_days, one_if}
use Rattle.chrono_datetime.proofs.CountBetween.{count_between-empty, count_between-where}
use Rattle.chrono_business.specs.DayCounts.{days_actual_actual, in_leap_year}
use Rattle.chrono_business.specs.LeapDays.{leap_before, leap_before_in}

-- ---- the name of the next day

-- b is the name of the day after that with the name a
abbrev IsNext : OrdinalName → OrdinalName → Type 0
IsNext a b =
    ((b.year ≡ a.year) × (b.ordinal ≡ a.ordinal + 1))
    ⊎ ((b.year ≡ a.year +ℤ pos 1) × (b.ordinal ≡ 1) × (a.ordinal ≡ year_length a.year))

next-is : (t : Bool) (a : OrdinalName) → IsOrdinalName a.year a.ordinal → nat_lt a.ordinal (year_length a.year) ≡ t → IsNext a (cond t (record { year = a.year; ordinal = a.ordinal + 1 }) (record { year = a.year +ℤ pos 1; ordinal = 1 }))
next-is true a is h = inl (refl, refl)
next-is false a is h =
    let past : year_length a.year ≤ a.ordinal = grind (arith, h) in
    inr (refl, refl, omega (arith, past, is.1))

previous-is : (t : Bool) (a : OrdinalName) → IsOrdinalName a.year a.ordinal → nat_lt 1 a.ordinal ≡ t → IsNext (cond t (record { year = a.year; ordinal = a.ordinal - 1 }) (record { year = a.year -ℤ pos 1; ordinal = year_length (a.year -ℤ pos 1) })) a
previous-is true a is h =
    let more : 1 < a.ordinal = grind (arith, h) in
    inl (refl, omega (arith, more))
previous-is false a is h =
    let first : a.ordinal ≤ 1 = grind (arith, h) in
    inr (omega (arith, signed), omega (arith, first, is.0), refl)

from-zero : (k : ℕ) → IsNext (ordinal_name_of (pos k)) (ordinal_name_of (pos (suc k)))
unfolding ordinal_name_of days_after_zero
from-zero k =
    next-is (nat_lt (days_after_zero k).ordinal (year_length (days_after_zero k).year)) (days_after_zero k) (ordinal_name_of-number (pos k)).exists refl

below-zero : (k : ℕ) → IsNext (ordinal_name_of (negsuc (suc k))) (ordinal_name_of (negsuc k))
unfolding ordinal_name_of days_before_zero
below-zero k =
    previous-is (nat_lt 1 (days_before_zero (suc k)).ordinal) (days_before_zero (suc k)) (ordinal_name_of-number (negsuc k)).exists refl

to-zero : IsNext (ordinal_name_of (negsuc 0)) (ordinal_name_of (pos 0))
unfolding ordinal_name_of days_after_zero days_before_zero
to-zero = previous-is true (days_before_zero 0) (ordinal_name_of-number (pos 0)).exists refl

name-next : (n m : ℤ) → m ≡ n +ℤ pos 1 → IsNext (ordinal_name_of n) (ordinal_name_of m)
name-next (pos k) m e = let at : m ≡ pos (suc k) = omega (arith, signed, e) in rw at (from-zero k)
name-next (negsuc zero) m e = let at : m ≡ pos 0 = omega (arith, signed, e) in rw at to-zero
name-next (negsuc (suc k)) m e = let at : m ≡ negsuc k = omega (arith, signed, e) in rw at (below-zero k)

-- ---- one day more

same-year : (leap : Bool) (y n m : ℤ) (o : ℕ) → m ≡ n +ℤ pos 1 → leap_before_in leap y (o + 1) m ≡ leap_before_in leap y o n +ℤ pos (one_if leap)
same-year true y n m o e = omega (arith, signed, e)
same-year false y n m o e = omega (arith, signed, e)

-- the year has 366 days if it is a leap year, and else 365
next-year : (leap other : Bool) (y n m : ℤ) → m ≡ n +ℤ pos 1 → leap_before_in other (y +ℤ pos 1) 1 m ≡ leap_before_in leap y (cond leap 366 365) n +ℤ pos (one_if leap)
next-year true true y n m e = omega (arith, signed, e)
next-year true false y n m e = omega (arith, signed, e)
next-year false true y n m e = omega (arith, signed, e)
next-year false false y n m e = omega (arith, signed, e)

leap-next : (n m : ℤ) → m ≡ n +ℤ pos 1 → leap_before m ≡ leap_before n +ℤ pos (one_if (in_leap_year n))
unfolding leap_before
leap-next n m e =
    let P : ℤ → ℕ → ℤ = λ y o. leap_before_in (is_leap_year y) y o m in
    let here = name-next n m e in
    elim here [
      | inl (year, ordinal) ↦ ap (λ y. P y (ordinal_of m)) year ∙ (ap (λ o. P (year_of n) o) ordinal ∙ same-year (is_leap_year (year_of n)) (year_of n) n m (ordinal_of n) e)
      | inr (year, ordinal, end) ↦ ap (λ y. P y (ordinal_of m)) year ∙ (ap (λ o. P (year_of n +ℤ pos 1) o) ordinal ∙ (next-year (is_leap_year (year_of n)) (is_leap_year (year_of n +ℤ pos 1)) (year_of n) n m e ∙ ap (λ o. leap_before_in (is_leap_year (year_of n)) (year_of n) o n +ℤ pos (one_if (is_leap_year (year_of n)))) (sym end)))
    ]

-- ---- so many days

leap-counted : (k : ℕ) (a b : ℤ) → b ≡ a +ℤ pos k → leap_before b ≡ leap_before a +ℤ pos (count_where in_leap_year k a)
leap-counted zero a b e =
    let same : b ≡ a = omega (arith, signed, e) in
    omega (arith, signed, ap leap_before same, count_where-no_days in_leap_year a)
leap-counted (suc k) a b e =
    let before : ℤ = a +ℤ pos k in
    omega (arith, signed, leap-next before b (omega (arith, signed, e)), leap-counted k a before refl, count_where-next in_leap_year k (suc k) a before (omega arith) refl)

one_or_other : (b : Bool) → one_if b + one_if (not b) ≡ 1
one_or_other true = refl
one_or_other false = refl

each-counted : (p : ℤ → Bool) (k : ℕ) (n : ℤ) → count_where p k n + count_where (λ d. not (p d)) k n ≡ k
each-counted p zero n = omega (arith, count_where-no_days p n, count_where-no_days (λ d. not (p d)) n)
each-counted p (suc k) n =
    let d : ℤ = n +ℤ pos k in
    omega (arith, each-counted p k n, count_where-next p k (suc k) n d (omega arith) refl, count_where-next (λ d. not (p d)) k (suc k) n d (omega arith) refl, one_or_other (p d))

-- from a day to a later one
ahead : (a b : ℤ) (k : ℕ) → b ≡ a +ℤ pos k → (pos (count_between in_leap_year a b) ≡ leap_before b -ℤ leap_before a) × (pos (count_between (λ n. not (in_leap_year n)) a b) ≡ (b -ℤ a) -ℤ (leap_before b -ℤ leap_before a))
ahead a b k e =
    let leap = count_between-where in_leap_year a b k e in
    let other = count_between-where (λ n. not (in_leap_year n)) a b k e in
    let counted = leap-counted k a b e in
    (omega (arith, signed, leap, counted), omega (arith, signed, leap, other, counted, each-counted in_leap_year k a, e))

pub actual_actual-is : (a b : ℤ) → days_actual_actual a b ≡ pos 366 *ℤ (b -ℤ a) -ℤ (leap_before b -ℤ leap_before a)
actual_actual-is a b =
    let none = count_between-empty in_leap_year in
    let none_other = count_between-empty (λ n. not (in_leap_year n)) in
    by_lt_z a b
    (λ lt.
    let found = ahead a b (unsigned_abs (b -ℤ a)) (omega (arith, signed, lt)) in
    omega (arith, signed, found.0, found.1, none b a (omega (arith, signed, lt)), none_other b a (omega (arith, signed, lt))))
    (λ ge.
    let found = ahead b a (unsigned_abs (a -ℤ b)) (omega (arith, signed, ge)) in
    omega (arith, signed, found.0, found.1, none a b ge, none_other a b ge))
