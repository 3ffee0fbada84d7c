-- How many numbers in a row a set leaves out.
use Rattle.std.proofs.Common.{◌≡◌, true, false, ℕ, ◌+◌, ◌-◌, ◌*◌, ◌/◌, ◌%◌, ◌^◌, ◌<◌, ◌≤◌, inl, inr, sym, ap, ◌∙◌, arith}
use Rattle.std.proofs.lemmas.Bool.{cases_eq, cases_lt}
use Rattle.std.proofs.lemmas.Nat.{leading_length, leading_top, pow_pos}
use Rattle.std.proofs.lemmas.Nat.Bits.{bit_at-trailing_zeros, bit_at-zero, bit_at_above, bit_at_cat_high, bit_at_cat_low}
use Rattle.std.specs.Int.{bit_at, leading_zeros, trailing_zeros, w64}
use lib.Count.{count_leading_zeros, count_trailing_zeros}
use Rattle.chrono_sets.specs.FiniteSets.{FiniteSet, has}
use Rattle.chrono_sets.proofs.Digits.{bit_at-shifted, bit_at-wrapped, has_not, has_one, top_digit}

-- ---- upwards

-- below the lowest 1 from a place on, and anywhere if there is none
pub zero-up : (n k j : ℕ) → n / 2 ^ k < 2 ^ 64 → j < trailing_zeros w64 (n / 2 ^ k) → bit_at n (k + j) ≡ 0
zero-up n k j fits lt =
    sym (bit_at-shifted n k j)
    ∙ elim (cases_eq (n / 2 ^ k) 0) [
      | inl none ↦ ap (λ x. bit_at x j) none ∙ bit_at-zero j
      | inr some ↦ (bit_at-trailing_zeros w64 (n / 2 ^ k) (omega (arith, some)) fits).2 j lt
    ]

-- of 0 all places are left out
none_left : (x : ℕ) → trailing_zeros w64 x < 64 → (x ≡ 0 → ⊥)
unfolding count_trailing_zeros
none_left x lt none =
    let all : trailing_zeros w64 x ≡ 64 = ap (trailing_zeros w64) none in
    omega (arith, lt, all)

pub one-up : (n k : ℕ) → n / 2 ^ k < 2 ^ 64 → trailing_zeros w64 (n / 2 ^ k) < 64 → bit_at n (k + trailing_zeros w64 (n / 2 ^ k)) ≡ 1
one-up n k fits lt =
    let some : 0 < n / 2 ^ k = omega (arith, none_left (n / 2 ^ k) lt) in
    sym (bit_at-shifted n k (trailing_zeros w64 (n / 2 ^ k))) ∙ (bit_at-trailing_zeros w64 (n / 2 ^ k) some fits).1

pub gap-up : (s : FiniteSet) (k j : ℕ) → s.code / 2 ^ k < 2 ^ 64 → j < trailing_zeros w64 (s.code / 2 ^ k) → has s (k + j) ≡ false
gap-up s k j fits lt = has_not s (k + j) (zero-up s.code k j fits lt)

pub member-up : (s : FiniteSet) (k : ℕ) → s.code / 2 ^ k < 2 ^ 64 → trailing_zeros w64 (s.code / 2 ^ k) < 64 → has s (k + trailing_zeros w64 (s.code / 2 ^ k)) ≡ true
member-up s k fits lt = has_one s (k + trailing_zeros w64 (s.code / 2 ^ k)) (one-up s.code k fits lt)

-- ---- downwards

-- digits moved up, of which those past the word are lost
bit_at-moved : (n k i : ℕ) → k ≤ i → i < 64 → bit_at (n * 2 ^ k % 2 ^ 64) i ≡ bit_at n (i - k)
bit_at-moved n k i low high =
    let filled : n * 2 ^ k ≡ n * 2 ^ k + 0 = omega arith in
    bit_at-wrapped (n * 2 ^ k) i high ∙ ap (λ y. bit_at y i) filled ∙ bit_at_cat_high n k 0 i (pow_pos k) low

bit_at-filled : (n k i : ℕ) → i < k → i < 64 → bit_at (n * 2 ^ k % 2 ^ 64) i ≡ 0
bit_at-filled n k i low high =
    let filled : n * 2 ^ k ≡ n * 2 ^ k + 0 = omega arith in
    bit_at-wrapped (n * 2 ^ k) i high ∙ ap (λ y. bit_at y i) filled ∙ bit_at_cat_low n k 0 i low ∙ bit_at-zero i

pub zero-down : (n from j : ℕ) → from < 64 → j ≤ from → j < leading_zeros w64 (n * 2 ^ (63 - from) % 2 ^ 64) → bit_at n (from - j) ≡ 0
zero-down n from j fits le lt =
    let moved = n * 2 ^ (63 - from) % 2 ^ 64 in
    let top = leading_length 64 moved (omega arith) in
    let place : from - j ≡ (63 - j) - (63 - from) = omega (arith, fits, le) in
    ap (bit_at n) place
    ∙ sym (bit_at-moved n (63 - from) (63 - j) (omega (arith, fits, le)) (omega arith))
    ∙ bit_at_above moved top.0 (63 - j) top.2 (omega (arith, lt, top.1))

none_led : (x : ℕ) → leading_zeros w64 x < 64 → (x ≡ 0 → ⊥)
unfolding count_leading_zeros
none_led x lt none =
    let all : leading_zeros w64 x ≡ 64 = ap (leading_zeros w64) none in
    omega (arith, lt, all)

zero_one : (x : ℕ) → x ≡ 0 → x ≡ 1 → ⊥
zero_one x none one = omega (arith, none, one)

pub one-down : (n from : ℕ) → from < 64 → leading_zeros w64 (n * 2 ^ (63 - from) % 2 ^ 64) < 64 → (leading_zeros w64 (n * 2 ^ (63 - from) % 2 ^ 64) ≤ from) × (bit_at n (from - leading_zeros w64 (n * 2 ^ (63 - from) % 2 ^ 64)) ≡ 1)
one-down n from fits lt =
    let moved = n * 2 ^ (63 - from) % 2 ^ 64 in
    let gone = leading_zeros w64 moved in
    let some : 0 < moved = omega (arith, none_led moved lt) in
    let top = leading_top 64 moved some (omega arith) in
    let digit : bit_at moved top.0 ≡ 1 = top_digit moved top.0 top.2 top.3 in
    let at : top.0 ≡ 63 - gone = omega (arith, top.1, lt) in
    let inside : gone ≤ from = elim (cases_lt top.0 (63 - from)) [
      | inl low ↦ absurd (zero_one (bit_at moved top.0) (bit_at-filled n (63 - from) top.0 low (omega (arith, at))) digit)
      | inr high ↦ omega (arith, high, at, fits, lt)
    ] in
    let place : from - gone ≡ top.0 - (63 - from) = omega (arith, at, inside, fits) in
    (inside, ap (bit_at n) place ∙ sym (bit_at-moved n (63 - from) top.0 (omega (arith, at, inside, fits)) (omega (arith, at))) ∙ digit)

pub gap-down : (s : FiniteSet) (from j : ℕ) → from < 64 → j ≤ from → j < leading_zeros w64 (s.code * 2 ^ (63 - from) % 2 ^ 64) → has s (from - j) ≡ false
gap-down s from j fits le lt = has_not s (from - j) (zero-down s.code from j fits le lt)

pub member-down : (s : FiniteSet) (from : ℕ) → from < 64 → leading_zeros w64 (s.code * 2 ^ (63 - from) % 2 ^ 64) < 64 → (leading_zeros w64 (s.code * 2 ^ (63 - from) % 2 ^ 64) ≤ from) × (has s (from - leading_zeros w64 (s.code * 2 ^ (63 - from) % 2 ^ 64)) ≡ true)
member-down s from fits lt =
    let it = one-down s.code from fits lt in
    (it.0, has_one s (from - leading_zeros w64 (s.code * 2 ^ (63 - from) % 2 ^ 64)) it.1)
