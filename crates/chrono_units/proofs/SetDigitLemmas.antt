-- The digits of a set's number under `|`, `&`, `^` and `!`, and what the counts of digits say of the set.
use Rattle.std.proofs.Common.{◌≡◌, ℕ, zero, suc, ◌+◌, ◌-◌, ◌*◌, ◌^◌, ◌%◌, ◌<◌, ◌==◌, refl, ap, sym, ◌∙◌, arith, not, ◌&&◌, ◌||◌, min, max, bit_and, bit_or, if◌then◌else◌}
use Rattle.std.specs.Prelude.{bit_xor}
use Rattle.std.specs.Int.{bit_at, w8}
use Rattle.std.proofs.lemmas.Bool.{ne_eqb}
use Rattle.std.proofs.lemmas.Nat.Bits.{and_pow, bit_at_and, bit_at_or, bit_at_xor, bit_at_not, bit_at-lt}
use Rattle.chrono_units.specs.declared.weekday.Weekday.{Weekday}
use Rattle.chrono_units.specs.declared.weekday.Weekday.TheVariants.{Mon, Tue, Wed, Thu, Fri, Sat, Sun}
use Rattle.chrono_units.specs.Weekday.{days_from_monday}
use Rattle.chrono_units.specs.WeekdaySet.{DaySet, contains, union, intersection, difference, symmetric_difference, single, set_number}
use Rattle.chrono_units.specs.SetDigits.{set_at, set_number-set_at}
use Rattle.chrono_units.proofs.EachSet.{same_days}

-- the tests of one digit
or_test : (x y : ℕ) → x < 2 → y < 2 → (max x y == 1) ≡ ((x == 1) || (y == 1))
or_test zero zero a b = refl
or_test zero (suc zero) a b = refl
or_test (suc zero) zero a b = refl
or_test (suc zero) (suc zero) a b = refl
or_test (suc (suc x)) y a b = absurd (omega arith)
or_test x (suc (suc y)) a b = absurd (omega arith)

and_test : (x y : ℕ) → x < 2 → y < 2 → (min x y == 1) ≡ ((x == 1) && (y == 1))
and_test zero zero a b = refl
and_test zero (suc zero) a b = refl
and_test (suc zero) zero a b = refl
and_test (suc zero) (suc zero) a b = refl
and_test (suc (suc x)) y a b = absurd (omega arith)
and_test x (suc (suc y)) a b = absurd (omega arith)

xor_test : (x y : ℕ) → x < 2 → y < 2 → ((x + y) % 2 == 1) ≡ (if x == 1 then not (y == 1) else (y == 1))
xor_test zero zero a b = refl
xor_test zero (suc zero) a b = refl
xor_test (suc zero) zero a b = refl
xor_test (suc zero) (suc zero) a b = refl
xor_test (suc (suc x)) y a b = absurd (omega arith)
xor_test x (suc (suc y)) a b = absurd (omega arith)

module _ (a b : ℕ) where
  or_digit : (k : ℕ) → (bit_at (bit_or a b) k == 1) ≡ ((bit_at a k == 1) || (bit_at b k == 1))
  or_digit k = ap (λ x. x == 1) (bit_at_or a b k) ∙ or_test _ _ (bit_at-lt a k) (bit_at-lt b k)

  and_digit : (k : ℕ) → (bit_at (bit_and a b) k == 1) ≡ ((bit_at a k == 1) && (bit_at b k == 1))
  and_digit k = ap (λ x. x == 1) (bit_at_and a b k) ∙ and_test _ _ (bit_at-lt a k) (bit_at-lt b k)

  xor_digit : (k : ℕ) → (bit_at (bit_xor a b) k == 1) ≡ (if (bit_at a k == 1) then not (bit_at b k == 1) else (bit_at b k == 1))
  xor_digit k = ap (λ x. x == 1) (bit_at_xor a b k) ∙ xor_test _ _ (bit_at-lt a k) (bit_at-lt b k)

  pub set_at-or : set_at (bit_or a b) ≡ union (set_at a) (set_at b)
  set_at-or = same_days _ _ (elim [ Mon ↦ or_digit 0 | Tue ↦ or_digit 1 | Wed ↦ or_digit 2 | Thu ↦ or_digit 3 | Fri ↦ or_digit 4 | Sat ↦ or_digit 5 | Sun ↦ or_digit 6 ])

  pub set_at-and : set_at (bit_and a b) ≡ intersection (set_at a) (set_at b)
  set_at-and = same_days _ _ (elim [ Mon ↦ and_digit 0 | Tue ↦ and_digit 1 | Wed ↦ and_digit 2 | Thu ↦ and_digit 3 | Fri ↦ and_digit 4 | Sat ↦ and_digit 5 | Sun ↦ and_digit 6 ])

  pub set_at-xor : set_at (bit_xor a b) ≡ symmetric_difference (set_at a) (set_at b)
  set_at-xor = same_days _ _ (elim [ Mon ↦ xor_digit 0 | Tue ↦ xor_digit 1 | Wed ↦ xor_digit 2 | Thu ↦ xor_digit 3 | Fri ↦ xor_digit 4 | Sat ↦ xor_digit 5 | Sun ↦ xor_digit 6 ])

-- 1 less a digit is the other digit
and_not_test : (x y : ℕ) → x < 2 → y < 2 → (min x (1 - y) == 1) ≡ ((x == 1) && not (y == 1))
and_not_test zero zero a b = refl
and_not_test zero (suc zero) a b = refl
and_not_test (suc zero) zero a b = refl
and_not_test (suc zero) (suc zero) a b = refl
and_not_test (suc (suc x)) y a b = absurd (omega arith)
and_not_test x (suc (suc y)) a b = absurd (omega arith)

module _ (a b : ℕ) (byte : b < 2 ^ 8) where
  and_not_digit : (k : ℕ) → k < 8 → (bit_at (bit_and a (255 - b)) k == 1) ≡ ((bit_at a k == 1) && not (bit_at b k == 1))
  and_not_digit k within =
      ap (λ x. x == 1) (bit_at_and a (255 - b) k ∙ ap (min (bit_at a k)) (bit_at_not w8 b k byte within))
      ∙ and_not_test _ _ (bit_at-lt a k) (bit_at-lt b k)

  pub set_at-and_not : set_at (bit_and a (255 - b)) ≡ difference (set_at a) (set_at b)
  set_at-and_not =
      same_days _ _
      (elim [
        | Mon ↦ and_not_digit 0 (omega arith)
        | Tue ↦ and_not_digit 1 (omega arith)
        | Wed ↦ and_not_digit 2 (omega arith)
        | Thu ↦ and_not_digit 3 (omega arith)
        | Fri ↦ and_not_digit 4 (omega arith)
        | Sat ↦ and_not_digit 5 (omega arith)
        | Sun ↦ and_not_digit 6 (omega arith)
      ])

-- the test of one digit under a mask of value v
mask_test : (x v : ℕ) → x < 2 → 0 < v → not (x * v == 0) ≡ (x == 1)
mask_test zero v a b = let none : 0 * v ≡ 0 = omega arith in ap (λ n. not (n == 0)) none
mask_test (suc zero) zero a b = absurd (omega arith)
mask_test (suc zero) (suc v) a b = ap not (ne_eqb _ _ (λ e. omega arith))
mask_test (suc (suc x)) v a b = absurd (omega arith)

module _ (n : ℕ) where
  mask_digit : (k : ℕ) → 0 < 2 ^ k → not (bit_and n (2 ^ k) == 0) ≡ (bit_at n k == 1)
  mask_digit k some = ap (λ x. not (x == 0)) (and_pow n k) ∙ mask_test (bit_at n k) (2 ^ k) (bit_at-lt n k) some

  -- what `n & digit != 0` says of the set
  pub contains-set_at : (d : Weekday) → not (bit_and n (2 ^ days_from_monday d) == 0) ≡ contains (set_at n) d
  contains-set_at =
      elim [
        | Mon ↦ mask_digit 0 (omega arith)
        | Tue ↦ mask_digit 1 (omega arith)
        | Wed ↦ mask_digit 2 (omega arith)
        | Thu ↦ mask_digit 3 (omega arith)
        | Fri ↦ mask_digit 4 (omega arith)
        | Sat ↦ mask_digit 5 (omega arith)
        | Sun ↦ mask_digit 6 (omega arith)
      ]

-- the set of one day has the number of its digit
pub set_at-digit : (d : Weekday) → set_at (2 ^ days_from_monday d) ≡ single d
set_at-digit = elim [ Mon ↦ refl | Tue ↦ refl | Wed ↦ refl | Thu ↦ refl | Fri ↦ refl | Sat ↦ refl | Sun ↦ refl ]

-- the number that a set is stored as
pub stored_number : (n : ℕ) (s : DaySet) → n < 128 → set_at n ≡ s → n ≡ set_number s
stored_number n s small view_is = sym (set_number-set_at n small) ∙ ap set_number view_is
