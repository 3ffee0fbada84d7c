-- A set that grows by one number after another.
use Rattle.std.proofs.Common.{◌≡◌, ℕ, ◌+◌, ◌-◌, ◌%◌, ◌<◌, ◌≤◌, ◌==◌, inl, inr, true, false, Bool, ◌&&◌, ◌||◌, refl, sym, ap, ◌∙◌, arith}
use Rattle.std.proofs.lemmas.Bool.{cases_lt, eq-eqb, le-leb, le-ltb, lt-leb, lt-ltb, ne_eqb}
use Rattle.std.specs.Prelude.{nat_le, nat_lt}
use Rattle.chrono_sets.specs.Steps.{is_by_steps}
use Rattle.std.proofs.Math.Bool.{and-false, and-true, or-false}

-- the numbers up to before n with a property, and n, which has it
pub taken : (p : ℕ → Bool) (n k : ℕ) → p n ≡ true → ((p k && nat_lt k n) || (k == n)) ≡ (p k && nat_lt k (n + 1))
taken p n k is = elim (cases_lt k n) [
  | inl low ↦ rw (lt-ltb k n low, lt-ltb k (n + 1) (omega (arith, low)), ne_eqb k n (omega (arith, low))) (or-false (p k && true))
  | inr high ↦ elim (cases_lt n k) [
    | inl more ↦ rw (le-ltb k n high, le-ltb k (n + 1) (omega (arith, more)), ne_eqb k n (omega (arith, more))) (or-false (p k && false))
    | inr same ↦
        let at : k ≡ n = omega (arith, high, same) in
        rw (at, is, le-ltb n n (omega arith), lt-ltb n (n + 1) (omega arith), eq-eqb n n refl) refl
  ]
]

-- the same where n does not have it
pub passed : (p : ℕ → Bool) (n k : ℕ) → p n ≡ false → (p k && nat_lt k n) ≡ (p k && nat_lt k (n + 1))
passed p n k is = elim (cases_lt k n) [
  | inl low ↦ rw (lt-ltb k n low, lt-ltb k (n + 1) (omega (arith, low))) refl
  | inr high ↦ elim (cases_lt n k) [
    | inl more ↦ rw (le-ltb k n high, le-ltb k (n + 1) (omega (arith, more))) refl
    | inr same ↦
        let at : k ≡ n = omega (arith, high, same) in
        rw (at, is) refl
  ]
]

and_three : (a b : Bool) → (a && (b && false)) ≡ false
and_three true true = refl
and_three true false = refl
and_three false true = refl
and_three false false = refl

-- a number between both ends, at a whole number of steps and not
pub is_by_steps-true : (first last step n : ℕ) → first ≤ n → n ≤ last → ((n - first) % step == 0) ≡ true → is_by_steps first last step n ≡ true
is_by_steps-true first last step n low high whole = rw (le-leb first n low, le-leb n last high) whole

pub is_by_steps-false : (first last step n : ℕ) → ((n - first) % step == 0) ≡ false → is_by_steps first last step n ≡ false
is_by_steps-false first last step n other = ap (λ b. nat_le first n && (nat_le n last && b)) other ∙ and_three (nat_le first n) (nat_le n last)

-- before the first number none is reached
pub none_yet : (first last step k : ℕ) → (is_by_steps first last step k && nat_lt k first) ≡ false
none_yet first last step k = elim (cases_lt k first) [
  | inl low ↦ rw (lt-leb first k low) refl
  | inr high ↦ rw (le-ltb k first high) (and-false (is_by_steps first last step k))
]

-- past the last number all are reached
pub all_passed : (first last step n k : ℕ) → last < n → (is_by_steps first last step k && nat_lt k n) ≡ is_by_steps first last step k
all_passed first last step n k past = elim (cases_lt k n) [
  | inl low ↦ rw (lt-ltb k n low) (and-true (is_by_steps first last step k))
  | inr high ↦ rw (le-ltb k n high, lt-leb k last (omega (arith, past, high))) (and-false (nat_le first k && false) ∙ sym (and-false (nat_le first k)))
]
