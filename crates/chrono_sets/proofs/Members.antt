-- The members of a set of numbers.
use Rattle.std.proofs.Common.{◌≡◌, ℕ, zero, suc, ◌+◌, ◌*◌, ◌/◌, ◌%◌, ◌^◌, ◌<◌, ◌≤◌, ◌==◌, ◌||◌, ◌&&◌, Bool, true, false, not, inl, inr, max, refl, sym, ap, ◌∙◌, arith, List, [], ◌∷◌, length, get_or}
use Rattle.std.specs.Prelude.{bit_or, nat_le, nat_lt}
use Rattle.std.specs.Int.{bit_at}
use Rattle.std.specs.List.{list_any}
use Rattle.std.proofs.Math.Nat.{pow-suc, pow-le-pow_right}
use Rattle.std.proofs.lemmas.Bool.{and_parts, cases_eq, cases_lt, eq-eqb, eqb-false, eqb-true, false≢true, le-leb, ltb-true, lt-leb, lt-ltb, ne_eqb}
use Rattle.std.proofs.lemmas.Nat.{leading_top, pow_pos}
use Rattle.std.proofs.lemmas.Nat.Bits.{bit_at-lt, bit_at-zero, bit_at_above, bit_at_cat_low, bit_at_or, bit_at-pow_same, bit_at-pow_other, same_from_bits}
use Rattle.chrono_sets.specs.FiniteSets.{FiniteSet, are_below, has, no_numbers, is_empty, lies_within, with_all, with_number, numbers}
use Rattle.std.proofs.Math.Bool.{or-false, or-true, or_assoc}
use Rattle.chrono_sets.proofs.Digits.{has_one, top_digit}

-- two sets with the same members are one
same_digit : (a b : ℕ) → a < 2 → b < 2 → (a == 1) ≡ (b == 1) → a ≡ b
same_digit a b p q e = grind arith

same_digits : (s t : FiniteSet) (k : ℕ) → has s k ≡ has t k → bit_at s.code k ≡ bit_at t.code k
unfolding has
same_digits s t k e = same_digit (bit_at s.code k) (bit_at t.code k) (bit_at-lt s.code k) (bit_at-lt t.code k) e

pub same_code : (s t : FiniteSet) → s.code ≡ t.code → s ≡ t
same_code s t same =
    let made : ℕ → FiniteSet = λ n. record { code = n } in
    ap made same

pub same_set : (s t : FiniteSet) → ((k : ℕ) → has s k ≡ has t k) → s ≡ t
same_set s t same = same_code s t (same_from_bits s.code t.code (λ k. same_digits s t k (same k)))

-- the members of the empty set
pub has-no_numbers : (k : ℕ) → has no_numbers k ≡ false
unfolding has
has-no_numbers k = ap (λ n. n == 1) (bit_at-zero k)

-- the members of a set and one more
one_max : (a b x : ℕ) → a < 2 → b < 2 → x ≡ max a b → (x == 1) ≡ ((a == 1) || (b == 1))
one_max a b x p q e = grind arith

one_power : (n k : ℕ) → (bit_at (2 ^ n) k == 1) ≡ (k == n)
one_power n k = elim (cases_eq k n) [
  | inl same ↦ ap (λ i. bit_at (2 ^ n) i == 1) same ∙ ap (λ b. b == 1) (bit_at-pow_same n) ∙ sym (eq-eqb k n same)
  | inr other ↦ ap (λ b. b == 1) (bit_at-pow_other n k other) ∙ sym (ne_eqb k n other)
]

pub has-with_number : (s : FiniteSet) (n k : ℕ) → has (with_number s n) k ≡ (has s k || (k == n))
unfolding has
has-with_number s n k =
    one_max (bit_at s.code k) (bit_at (2 ^ n) k) (bit_at (bit_or s.code (2 ^ n)) k) (bit_at-lt s.code k) (bit_at-lt (2 ^ n) k) (bit_at_or s.code (2 ^ n) k)
    ∙ ap (λ b. (bit_at s.code k == 1) || b) (one_power n k)

-- the members of the set of a list
has-with_all : (s : FiniteSet) (ns : List ℕ) (k : ℕ) → has (with_all s ns) k ≡ (has s k || list_any (λ n. k == n) ns)
has-with_all s [] k = sym (or-false (has s k))
has-with_all s (n ∷ ns) k =
    has-with_all (with_number s n) ns k ∙ ap (λ b. b || list_any (λ n. k == n) ns) (has-with_number s n k) ∙ or_assoc (has s k) (k == n) (list_any (λ n. k == n) ns)

pub has-numbers : (ns : List ℕ) (k : ℕ) → has (numbers ns) k ≡ list_any (λ n. k == n) ns
has-numbers ns k = has-with_all no_numbers ns k ∙ ap (λ b. b || list_any (λ n. k == n) ns) (has-no_numbers k)

-- ---- sets with no member

pub is_empty-is : (s : FiniteSet) → is_empty s ≡ true → s ≡ no_numbers
is_empty-is s empty = same_code s no_numbers (eqb-true s.code 0 empty)

pub has-none : (s : FiniteSet) (k : ℕ) → is_empty s ≡ true → has s k ≡ false
has-none s k empty = ap (λ s. has s k) (is_empty-is s empty) ∙ has-no_numbers k

pub is_empty-none : (s : FiniteSet) → ((k : ℕ) → has s k ≡ false) → is_empty s ≡ true
is_empty-none s none = ap is_empty (same_set s no_numbers (λ k. none k ∙ sym (has-no_numbers k)))

pub is_empty-some : (s : FiniteSet) (k : ℕ) → has s k ≡ true → is_empty s ≡ false
is_empty-some s k is = elim (cases_eq s.code 0) [
  | inl none ↦ absurd (false≢true (sym (has-none s k (eq-eqb s.code 0 none)) ∙ is))
  | inr some ↦ ne_eqb s.code 0 some
]

-- the greatest member
lt_pow : (n : ℕ) → n < 2 ^ n
lt_pow zero = omega arith
lt_pow (suc n) = omega (arith, lt_pow n, pow-suc 2 n)

pub top_member : (s : FiniteSet) → 0 < s.code → (k : ℕ) × (has s k ≡ true) × (s.code < 2 ^ suc k)
top_member s some =
    let top = leading_top s.code s.code some (lt_pow s.code) in
    (top.0, has_one s top.0 (top_digit s.code top.0 top.2 top.3), top.3)

pub some_member : (s : FiniteSet) → is_empty s ≡ false → (k : ℕ) × (has s k ≡ true)
some_member s some =
    let top = top_member s (omega (arith, eqb-false _ _ some)) in
    (top.0, top.1)

not_member : (s : FiniteSet) (k : ℕ) → bit_at s.code k ≡ 0 → has s k ≡ true → ⊥
unfolding has
not_member s k none is = false≢true (sym (ap (λ b. b == 1) none) ∙ is)

-- the digits that are left over by a power
no_low_digit : (s : FiniteSet) (first k : ℕ) → (has s k ≡ true → first ≤ k) → bit_at (s.code % 2 ^ first) k ≡ 0
unfolding has
no_low_digit s first k all = elim (cases_lt k first) [
  | inl low ↦
      let whole : s.code / 2 ^ first * 2 ^ first + s.code % 2 ^ first ≡ s.code = grind arith in
      let digit : bit_at (s.code % 2 ^ first) k ≡ bit_at s.code k = sym (bit_at_cat_low (s.code / 2 ^ first) first (s.code % 2 ^ first) k low) ∙ ap (λ n. bit_at n k) whole in
      elim (cases_eq (bit_at s.code k) 1) [
        | inl one ↦ absurd (omega (arith, low, all (ap (λ b. b == 1) one)))
        | inr other ↦ omega (arith, digit, other, bit_at-lt s.code k)
      ]
  | inr high ↦ bit_at_above (s.code % 2 ^ first) first k (omega (arith, pow_pos first)) high
]

past_end : (n end k : ℕ) → 2 ^ end ≤ n → n < 2 ^ suc k → k < end → ⊥
past_end n end k over fits lt = omega (arith, over, fits, pow-le-pow_right {n = 2} (omega arith) {i = suc k} {j = end} (omega (arith, lt)))

-- whether a set is empty that has the members of two
pub is_empty-either : (s t u : FiniteSet) → ((k : ℕ) → has u k ≡ (has s k || has t k)) → is_empty u ≡ (is_empty s && is_empty t)
is_empty-either s t u either = elim (cases_eq s.code 0) [
  | inl no_s ↦ elim (cases_eq t.code 0) [
    | inl no_t ↦
        let left : is_empty s ≡ true = eq-eqb s.code 0 no_s in
        let right : is_empty t ≡ true = eq-eqb t.code 0 no_t in
        is_empty-none u (λ k. either k ∙ ap (λ b. b || has t k) (has-none s k left) ∙ has-none t k right) ∙ rw (left, right) refl
    | inr some ↦
        let it = some_member t (ne_eqb t.code 0 some) in
        let left : is_empty s ≡ true = eq-eqb s.code 0 no_s in
        let right : is_empty t ≡ false = ne_eqb t.code 0 some in
        is_empty-some u it.0 (either it.0 ∙ ap (λ b. has s it.0 || b) it.1 ∙ or-true (has s it.0)) ∙ rw (left, right) refl
  ]
  | inr some ↦
      let it = some_member s (ne_eqb s.code 0 some) in
      let left : is_empty s ≡ false = ne_eqb s.code 0 some in
      is_empty-some u it.0 (either it.0 ∙ ap (λ b. b || has t it.0) it.1) ∙ rw left refl
]

pub neither : (a b r : Bool) → ((a && b) && not r) ≡ (a && not (not b || r))
neither true true r = refl
neither true false r = refl
neither false true r = refl
neither false false r = refl

-- ---- sets within bounds

-- a set below a power has no member from there on, and one that is not has one
pub lies_within-has : (first end : ℕ) (s : FiniteSet) → lies_within first end s ≡ true → (k : ℕ) → has s k ≡ true → (first ≤ k) × (k < end)
lies_within-has first end s within k is =
    let parts = and_parts (s.code % 2 ^ first == 0) (nat_lt s.code (2 ^ end)) within in
    let none : s.code % 2 ^ first ≡ 0 = eqb-true (s.code % 2 ^ first) 0 parts.0 in
    let whole : s.code ≡ s.code / 2 ^ first * 2 ^ first + 0 = grind (arith, none) in
    let low : first ≤ k = elim (cases_lt k first) [
      | inl below ↦ absurd (not_member s k (ap (λ n. bit_at n k) whole ∙ bit_at_cat_low (s.code / 2 ^ first) first 0 k below ∙ bit_at-zero k) is)
      | inr high ↦ high
    ] in
    let high : k < end = elim (cases_lt k end) [
      | inl below ↦ below
      | inr past ↦ absurd (not_member s k (bit_at_above s.code end k (ltb-true s.code (2 ^ end) parts.1) past) is)
    ] in
    (low, high)

pub lies_within-all : (first end : ℕ) (s : FiniteSet) → ((k : ℕ) → has s k ≡ true → (first ≤ k) × (k < end)) → lies_within first end s ≡ true
lies_within-all first end s all =
    let low : (s.code % 2 ^ first == 0) ≡ true = eq-eqb (s.code % 2 ^ first) 0 (same_from_bits (s.code % 2 ^ first) 0 (λ k. no_low_digit s first k (λ is. (all k is).0) ∙ sym (bit_at-zero k))) in
    let high : nat_lt s.code (2 ^ end) ≡ true = elim (cases_lt s.code (2 ^ end)) [
      | inl fits ↦ lt-ltb s.code (2 ^ end) fits
      | inr over ↦
          let top = top_member s (omega (arith, over, pow_pos end)) in
          absurd (past_end s.code end top.0 over top.2 (all top.0 top.1).1)
    ] in
    rw (low, high) refl

-- ---- lists of small numbers

below-not : (end n : ℕ) (b : Bool) → not (nat_le end n || b) ≡ true → (n < end) × (not b ≡ true)
below-not end n b is = elim (cases_lt n end) [
  | inl lt ↦ (lt, ap (λ x. not (x || b)) (sym (lt-leb end n lt)) ∙ is)
  | inr le ↦ absurd (false≢true (sym (ap (λ x. not (x || b)) (le-leb end n le)) ∙ is))
]

pub are_below-at : (end : ℕ) (ns : List ℕ) → are_below end ns ≡ true → (i : ℕ) → i < length ns → get_or ns i 0 < end
are_below-at end [] is i lt = absurd (omega (arith, lt))
are_below-at end (n ∷ ns) is zero lt = (below-not end n (list_any (λ n. nat_le end n) ns) is).0
are_below-at end (n ∷ ns) is (suc i) lt = are_below-at end ns (below-not end n (list_any (λ n. nat_le end n) ns) is).1 i (omega (arith, lt))
