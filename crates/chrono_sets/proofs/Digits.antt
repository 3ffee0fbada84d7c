-- The members of a set of numbers, by the binary digits that it is stored as.
use Rattle.std.proofs.Common.{◌≡◌, ℕ, zero, suc, ◌+◌, ◌-◌, ◌*◌, ◌/◌, ◌%◌, ◌^◌, ◌<◌, ◌≤◌, ◌==◌, inl, inr, ◌&&◌, ◌||◌, Bool, true, false, min, max, refl, sym, ap, ◌∙◌, arith}
use Rattle.std.proofs.lemmas.Bool.{and_left, and_right, cases_lt, eqb-true, le-leb, le-ltb, lt-leb, lt-ltb}
use Rattle.std.proofs.Math.Nat.{pow-suc, pow-le-pow_right}
use Rattle.std.proofs.lemmas.Nat.{shr-shr, leading_top, and_le_r, one_shl, pow_below, pow_pos}
use Rattle.std.proofs.lemmas.Nat.Bits.{bit_at-lt, bit_at-suc, bit_at-zero, bit_at_above, bit_at_and, bit_at_or, bit_at_lowest, bit_at_ones, bit_at_mask_above, bit_at_mask_below, bit_at_mask_inside, bit_at_cat_high, bit_at_cat_low, bit_at-trailing_zeros}
use Rattle.std.specs.Prelude.{bit_and, bit_or, nat_le, nat_lt}
use Rattle.std.specs.Int.{bit_at, w64, trailing_zeros, leading_zeros, reverse_bits_onto}
use Rattle.chrono_sets.specs.FiniteSets.{FiniteSet, has}

-- whether a digit is 1
abbrev is_one : ℕ → Bool
is_one b = b == 1

pub has_not : (s : FiniteSet) (k : ℕ) → bit_at s.code k ≡ 0 → has s k ≡ false
unfolding has
has_not s k none = ap is_one none

pub has_one : (s : FiniteSet) (k : ℕ) → bit_at s.code k ≡ 1 → has s k ≡ true
unfolding has
has_one s k one = ap is_one one

-- the digits of what is left of a number when its lowest are taken away
pub bit_at-shifted : (n k i : ℕ) → bit_at (n / 2 ^ k) i ≡ bit_at n (k + i)
bit_at-shifted n k i = ap (λ x. x % 2) (shr-shr n k i)

bit_at-from : (n k j : ℕ) → k ≤ j → bit_at n j ≡ bit_at (n / 2 ^ k) (j - k)
bit_at-from n k j le =
    let at : j ≡ k + (j - k) = omega arith in
    ap (bit_at n) at ∙ sym (bit_at-shifted n k (j - k))

-- no digit from a place on is 1
pub none_from : (s : FiniteSet) (from j : ℕ) → s.code / 2 ^ from ≡ 0 → from ≤ j → has s j ≡ false
none_from s from j empty le =
    has_not s j (bit_at-from s.code from j le ∙ ap (λ n. bit_at n (j - from)) empty ∙ bit_at-zero (j - from))

-- the lowest digit from a place on that is 1
pub first_from : (s : FiniteSet) (from : ℕ) → 0 < s.code / 2 ^ from → s.code / 2 ^ from < 2 ^ 64 → has s (from + trailing_zeros w64 (s.code / 2 ^ from)) ≡ true
first_from s from some fits =
    let rest = s.code / 2 ^ from in
    has_one s (from + trailing_zeros w64 rest) (sym (bit_at-shifted s.code from (trailing_zeros w64 rest)) ∙ (bit_at-trailing_zeros w64 rest some fits).1)

pub none_before_first : (s : FiniteSet) (from j : ℕ) → 0 < s.code / 2 ^ from → s.code / 2 ^ from < 2 ^ 64 → from ≤ j → j < from + trailing_zeros w64 (s.code / 2 ^ from) → has s j ≡ false
none_before_first s from j some fits low high =
    has_not s j (bit_at-from s.code from j low ∙ (bit_at-trailing_zeros w64 (s.code / 2 ^ from) some fits).2 (j - from) (omega arith))

-- the digits below a place
abbrev pub below : ℕ → ℕ → ℕ
below n end = bit_and n (2 ^ end - 1)

bit_at-below : (n end j : ℕ) → j < end → bit_at (below n end) j ≡ bit_at n j
bit_at-below n end j lt =
    let bound = bit_at-lt n j in
    bit_at_and n (2 ^ end - 1) j ∙ ap (min (bit_at n j)) (bit_at_ones end j lt) ∙ omega arith

below_fits : (n end : ℕ) → below n end < 2 ^ end
below_fits n end = omega (arith, and_le_r n (2 ^ end - 1), pow_pos end)

-- no digit below a place is 1
pub none_below : (s : FiniteSet) (end j : ℕ) → below s.code end ≡ 0 → j < end → has s j ≡ false
none_below s end j empty lt =
    has_not s j (sym (bit_at-below s.code end j lt) ∙ ap (λ n. bit_at n j) empty ∙ bit_at-zero j)

pow-double : (j : ℕ) → 2 ^ suc j ≡ 2 * 2 ^ j
pow-double j = omega (arith, pow-suc 2 j)

quotient_one : (n d : ℕ) → d ≤ n → n < 2 * d → n / d ≡ 1
quotient_one n d low high = grind arith

place_below : (n j end : ℕ) → 2 ^ j ≤ n → n < 2 ^ end → j < end
place_below n j end low high = elim (cases_lt j end) [
  | inl lt ↦ lt
  | inr ge ↦ absurd (omega (arith, low, high, pow-le-pow_right {n = 2} (omega arith) ge))
]

-- the highest digit below a place that is 1
pub top_digit : (n j : ℕ) → 2 ^ j ≤ n → n < 2 ^ suc j → bit_at n j ≡ 1
top_digit n j low high =
    let quotient : n / 2 ^ j ≡ 1 = quotient_one n (2 ^ j) low (rw (pow-double j) at high) in
    ap (λ q. q % 2) quotient

pub last_below : (s : FiniteSet) (end rest : ℕ) → end < 64 → rest ≡ below s.code end → (rest ≡ 0 → ⊥) → (has s (63 - leading_zeros w64 rest) ≡ true) × (63 - leading_zeros w64 rest < end) × ((j : ℕ) → 63 - leading_zeros w64 rest < j → j < end → has s j ≡ false)
last_below s end rest lt is some =
    let fits : rest < 2 ^ end = omega (arith, is, below_fits s.code end) in
    let top = leading_top 64 rest (omega (arith, some)) (omega (arith, fits, pow_below end 64 lt)) in
    let at : 63 - leading_zeros w64 rest ≡ top.0 = omega (arith, top.1) in
    let inside : top.0 < end = place_below rest top.0 end top.2 fits in
    let digit : (j : ℕ) → j < end → bit_at s.code j ≡ bit_at rest j = λ j high. sym (bit_at-below s.code end j high) ∙ ap (λ n. bit_at n j) (sym is) in
    rw at (has_one s top.0 (digit top.0 inside ∙ top_digit rest top.0 top.2 top.3), inside, λ j low high. has_not s j (digit j high ∙ bit_at_above rest (suc top.0) j top.3 low))

-- a week's digits, over and over
repeated : ℕ → ℕ → ℕ
repeated w zero = 0
repeated w (suc n) = repeated w n * 2 ^ 7 + w

bit_at-repeated : (w n k : ℕ) → w < 2 ^ 7 → k < 7 * n → bit_at (repeated w n) k ≡ bit_at w (k % 7)
unfolding repeated
bit_at-repeated w zero k fits lt = absurd (omega arith)
bit_at-repeated w (suc n) k fits lt = elim (cases_lt k 7) [
  | inl low ↦ bit_at_cat_low (repeated w n) 7 w k low ∙ ap (bit_at w) (omega arith)
  | inr high ↦ bit_at_cat_high (repeated w n) 7 w k fits high ∙ bit_at-repeated w n (k - 7) fits (omega arith) ∙ ap (bit_at w) (omega arith)
]

seven : (w : ℕ) → w * 4_432_676_798_593 ≡ repeated w 7
unfolding repeated
seven w = omega arith

-- seven weeks in a row, from a day of the first on
pub has-weeks : (s t : FiniteSet) (before k : ℕ) → before < 7 → k + before < 49 → t.code ≡ bit_and s.code 127 * 4_432_676_798_593 / 2 ^ before → has t k ≡ has s ((k + before) % 7)
unfolding has
has-weeks s t before k start end made =
    let week = bit_and s.code 127 in
    let fits : week < 2 ^ 7 = below_fits s.code 7 in
    let rows : week * 4_432_676_798_593 ≡ repeated week 7 = seven week in
    let place : (before + k) % 7 ≡ (k + before) % 7 = omega arith in
    let digit : bit_at t.code k ≡ bit_at s.code ((k + before) % 7) =
    ap (λ n. bit_at n k) made ∙ bit_at-shifted (week * 4_432_676_798_593) before k ∙ ap (λ n. bit_at n (before + k)) rows
    ∙ bit_at-repeated week 7 (before + k) fits (omega arith) ∙ ap (bit_at week) place
    ∙ bit_at-below s.code 7 ((k + before) % 7) (omega arith) in
    ap is_one digit

-- past the seven weeks
pub has-past_weeks : (n : ℕ) (t : FiniteSet) (before k : ℕ) → 49 ≤ k + before → t.code ≡ bit_and n 127 * 4_432_676_798_593 / 2 ^ before → has t k ≡ false
has-past_weeks n t before k past made =
    let weeks = bit_and n 127 * 4_432_676_798_593 in
    let fits : weeks < 2 ^ 49 = omega (arith, below_fits n 7) in
    has_not t k (ap (λ x. bit_at x k) made ∙ bit_at-shifted weeks before k ∙ bit_at_above weeks 49 (before + k) fits (omega (arith, past)))

-- a set below a power has no member from there on
pub has-above : (n end k : ℕ) → n < 2 ^ end → end ≤ k → has (record { code = n }) k ≡ false
has-above n end k fits le = has_not (record { code = n }) k (bit_at_above n end k fits le)

one_min : (a b x : ℕ) → a < 2 → b < 2 → x ≡ min a b → is_one x ≡ (is_one a && is_one b)
one_min a b x p q e = grind arith

one_max : (a b x : ℕ) → a < 2 → b < 2 → x ≡ max a b → is_one x ≡ (is_one a || is_one b)
one_max a b x p q e = grind arith

pub has-and : (s t u : FiniteSet) (k : ℕ) → u.code ≡ bit_and s.code t.code → has u k ≡ (has s k && has t k)
unfolding has
has-and s t u k made = one_min (bit_at s.code k) (bit_at t.code k) (bit_at u.code k) (bit_at-lt s.code k) (bit_at-lt t.code k) (ap (λ n. bit_at n k) made ∙ bit_at_and s.code t.code k)

pub has-or : (s t u : FiniteSet) (k : ℕ) → u.code ≡ bit_or s.code t.code → has u k ≡ (has s k || has t k)
unfolding has
has-or s t u k made = one_max (bit_at s.code k) (bit_at t.code k) (bit_at u.code k) (bit_at-lt s.code k) (bit_at-lt t.code k) (ap (λ n. bit_at n k) made ∙ bit_at_or s.code t.code k)

pub has-none : (s : FiniteSet) (k : ℕ) → (s.code == 0) ≡ true → has s k ≡ false
has-none s k empty = has_not s k (ap (λ n. bit_at n k) (eqb-true s.code 0 empty) ∙ bit_at-zero k)

-- ---- sets moved, mirrored and cut

pub has-lowered : (s t : FiniteSet) (by k : ℕ) → t.code ≡ s.code / 2 ^ by → has t k ≡ has s (k + by)
unfolding has
has-lowered s t by k made =
    let place : by + k ≡ k + by = omega arith in
    ap is_one (ap (λ n. bit_at n k) made ∙ bit_at-shifted s.code by k ∙ ap (bit_at s.code) place)

-- the lowest 64 digits of a number
pub bit_at-wrapped : (n k : ℕ) → k < 64 → bit_at (n % 2 ^ 64) k ≡ bit_at n k
bit_at-wrapped n k lt =
    let whole : n / 2 ^ 64 * 2 ^ 64 + n % 2 ^ 64 ≡ n = omega arith in
    sym (bit_at_cat_low (n / 2 ^ 64) 64 (n % 2 ^ 64) k lt) ∙ ap (λ x. bit_at x k) whole

pub has-raised : (s t : FiniteSet) (by k : ℕ) → k < 64 → t.code ≡ s.code * 2 ^ by % 2 ^ 64 → has t k ≡ (nat_le by k && has s (k - by))
unfolding has
has-raised s t by k lt made =
    let digit : bit_at t.code k ≡ bit_at (s.code * 2 ^ by) k = ap (λ n. bit_at n k) made ∙ bit_at-wrapped (s.code * 2 ^ by) k lt in
    let filled : s.code * 2 ^ by ≡ s.code * 2 ^ by + 0 = omega arith in
    elim (cases_lt k by) [
      | inl low ↦ rw (lt-leb by k low) (ap is_one (digit ∙ ap (λ n. bit_at n k) filled ∙ bit_at_cat_low s.code by 0 k low ∙ bit_at-zero k))
      | inr high ↦ rw (le-leb by k high) (ap is_one (digit ∙ ap (λ n. bit_at n k) filled ∙ bit_at_cat_high s.code by 0 k (pow_pos by) high))
    ]

-- digits in the opposite order, in front of others
bit_at-behind : (k n a i : ℕ) → bit_at (reverse_bits_onto k n a) (k + i) ≡ bit_at a i
unfolding reverse_bits_onto
bit_at-behind zero n a i = let place : 0 + i ≡ i = omega arith in ap (bit_at a) place
bit_at-behind (suc k) n a i =
    let place : suc k + i ≡ k + suc i = omega arith in
    let before : suc i - 1 ≡ i = omega arith in
    ap (bit_at (reverse_bits_onto k (n / 2) (a * 2 + n % 2))) place ∙ bit_at-behind k (n / 2) (a * 2 + n % 2) (suc i)
    ∙ bit_at_cat_high a 1 (n % 2) (suc i) (omega arith) (omega arith) ∙ ap (bit_at a) before

bit_at-turned : (k n a i : ℕ) → i < k → bit_at (reverse_bits_onto k n a) i ≡ bit_at n (k - 1 - i)
unfolding reverse_bits_onto
bit_at-turned zero n a i lt = absurd (omega (arith, lt))
bit_at-turned (suc k) n a i lt = elim (cases_lt i k) [
  | inl less ↦
      let place : suc (k - 1 - i) ≡ suc k - 1 - i = omega (arith, less) in
      bit_at-turned k (n / 2) (a * 2 + n % 2) i less ∙ sym (bit_at-suc n (k - 1 - i)) ∙ ap (bit_at n) place
  | inr last ↦
      let here : i ≡ k + 0 = omega (arith, lt, last) in
      let place : 0 ≡ suc k - 1 - i = omega (arith, lt, last) in
      let lowest : (a * 2 + n % 2) % 2 ≡ n % 2 = omega arith in
      ap (bit_at (reverse_bits_onto k (n / 2) (a * 2 + n % 2))) here ∙ bit_at-behind k (n / 2) (a * 2 + n % 2) 0
      ∙ bit_at_lowest (a * 2 + n % 2) ∙ lowest ∙ sym (bit_at_lowest n) ∙ ap (bit_at n) place
]

pub has-mirrored : (s t : FiniteSet) (last k : ℕ) → last < 64 → k ≤ last → t.code ≡ reverse_bits_onto 64 s.code 0 / 2 ^ (63 - last) → has t k ≡ has s (last - k)
unfolding has
has-mirrored s t last k lt le made =
    let place : 64 - 1 - (63 - last + k) ≡ last - k = omega (arith, lt, le) in
    ap is_one (ap (λ n. bit_at n k) made ∙ bit_at-shifted (reverse_bits_onto 64 s.code 0) (63 - last) k
    ∙ bit_at-turned 64 s.code 0 (63 - last + k) (omega (arith, lt, le)) ∙ ap (bit_at s.code) place)

pub has-past_mirror : (t : FiniteSet) (n last k : ℕ) → last < 64 → last < k → n < 2 ^ 64 → t.code ≡ n / 2 ^ (63 - last) → has t k ≡ false
has-past_mirror t n last k lt past fits made =
    has_not t k (ap (λ x. bit_at x k) made ∙ bit_at-shifted n (63 - last) k ∙ bit_at_above n 64 (63 - last + k) fits (omega (arith, lt, past)))

-- whether a place lies between two others, by the digits of ones
is_one-between : (from end k : ℕ) → is_one (bit_at (2 ^ end - 2 ^ from) k) ≡ (nat_le from k && nat_lt k end)
is_one-between from end k = elim (cases_lt k from) [
  | inl low ↦ ap is_one (bit_at_mask_below from end k low) ∙ sym (and_left (nat_le from k) (nat_lt k end) (lt-leb from k low))
  | inr high ↦ elim (cases_lt k end) [
    | inl inside ↦ ap is_one (bit_at_mask_inside from end k high inside) ∙ rw (le-leb from k high, lt-ltb k end inside) refl
    | inr past ↦ ap is_one (bit_at_mask_above from end k past) ∙ sym (and_right (nat_le from k) (nat_lt k end) (le-ltb k end past))
  ]
]

pub has-between : (s t : FiniteSet) (from end k : ℕ) → t.code ≡ bit_and s.code (2 ^ end - 2 ^ from) → has t k ≡ (has s k && (nat_le from k && nat_lt k end))
unfolding has
has-between s t from end k made =
    let mask = 2 ^ end - 2 ^ from in
    one_min (bit_at s.code k) (bit_at mask k) (bit_at t.code k) (bit_at-lt s.code k) (bit_at-lt mask k) (ap (λ n. bit_at n k) made ∙ bit_at_and s.code mask k)
    ∙ ap (λ b. is_one (bit_at s.code k) && b) (is_one-between from end k)

pub has-range : (t : FiniteSet) (from end k : ℕ) → t.code ≡ 2 ^ end - 2 ^ from → has t k ≡ (nat_le from k && nat_lt k end)
unfolding has
has-range t from end k made = ap (λ n. is_one (bit_at n k)) made ∙ is_one-between from end k

pub ones_order : (from end : ℕ) → from ≤ end → end < 64 → 1 * 2 ^ from % 2 ^ 64 ≤ 1 * 2 ^ end % 2 ^ 64
ones_order from end le lt =
    let rises = pow-le-pow_right {n = 2} (omega arith) le in
    omega (arith, rises, one_shl from 64 (omega (arith, le, lt)), one_shl end 64 lt)
