-- The members of a set that is stored as words.
use Rattle.std.proofs.Common.{◌≡◌, ◌==◌, ◌&&◌, Bool, true, false, refl, ℕ, suc, ◌+◌, ◌-◌, ◌*◌, ◌/◌, ◌%◌, ◌^◌, ◌<◌, ◌≤◌, ◌≢◌, inl, inr, sym, ap, ◌∙◌, arith, max, bit_or, List, [], ◌∷◌, length}
use Rattle.std.specs.Prelude.{slice_index_or, slice_set}
use Rattle.std.specs.Int.{bit_at, leading_zeros, trailing_zeros, w64}
use Rattle.std.proofs.lemmas.Bool.{cases_eq, cases_lt, eq-eqb, ne_eqb}
use Rattle.std.proofs.lemmas.Nat.{leading_top, one_shl, or_lt}
use Rattle.std.proofs.lemmas.Nat.Bits.{bit_at-zero, bit_at_above, bit_at_cat_high, bit_at_cat_low, bit_at_or, bit_at-pow_same, bit_at-pow_other, same_from_bits}
use Rattle.std.proofs.Common.{get_or-set_other, get_or-set_same, length-set}
use Rattle.chrono_sets.specs.FiniteSets.{FiniteSet, has, with_number}
use Rattle.chrono_sets.specs.Words.{AreSixWords, joined}
use lib.Pointwise.{pointwise}
use Rattle.chrono_sets.proofs.Digits.{has-or, top_digit}
use Rattle.chrono_sets.proofs.Members.{is_empty-either, same_code}
use Rattle.chrono_sets.proofs.Gaps.{one-down, one-up, zero-down, zero-up}

pub bit_at-joined : (words : List ℕ) (k : ℕ) → ((i : ℕ) → slice_index_or words i 0 < 2 ^ 64) → bit_at (joined words) k ≡ bit_at (slice_index_or words (k / 64) 0) (k % 64)
bit_at-joined [] k small = bit_at-zero k ∙ sym (bit_at-zero (k % 64))
bit_at-joined (w ∷ ws) k small = elim (cases_lt k 64) [
  | inl low ↦
      let word : k / 64 ≡ 0 = omega (arith, low) in
      let place : k % 64 ≡ k = omega (arith, low) in
      bit_at_cat_low (joined ws) 64 w k low ∙ sym (ap (λ i. bit_at (slice_index_or (w ∷ ws) i 0) (k % 64)) word ∙ ap (bit_at w) place)
  | inr high ↦
      let word : k / 64 ≡ suc ((k - 64) / 64) = omega (arith, high) in
      let place : (k - 64) % 64 ≡ k % 64 = omega (arith, high) in
      bit_at_cat_high (joined ws) 64 w k (small 0) high ∙ bit_at-joined ws (k - 64) (λ i. small (suc i))
      ∙ ap (bit_at (slice_index_or ws ((k - 64) / 64) 0)) place ∙ sym (ap (λ i. bit_at (slice_index_or (w ∷ ws) i 0) (k % 64)) word)
]

pub has-joined : (words : List ℕ) (k : ℕ) → AreSixWords words → has (record { code = joined words }) k ≡ (bit_at (slice_index_or words (k / 64) 0) (k % 64) == 1)
unfolding has
has-joined words k six = ap (λ b. b == 1) (bit_at-joined words k six.small)

-- ---- a number added

-- a word within its bounds
fits-or : (w p : ℕ) → w < 2 ^ 64 → p < 64 → bit_or w (1 * 2 ^ p % 2 ^ 64) < 2 ^ 64
fits-or w p small lt = or_lt 64 w (1 * 2 ^ p % 2 ^ 64) small (omega arith)

pub six-set : (words : List ℕ) (n : ℕ) → n < 384 → AreSixWords words → AreSixWords (slice_set words (n / 64) (bit_or (slice_index_or words (n / 64) 0) (1 * 2 ^ (n % 64) % 2 ^ 64)))
six-set words n small six =
    let word = n / 64 in
    let new = bit_or (slice_index_or words word 0) (1 * 2 ^ (n % 64) % 2 ^ 64) in
    let lt : word < length words = omega (arith, small, six.six) in
    record {
      six = length-set words word new ∙ six.six;
      small = λ i. elim (cases_eq i word) [
        | inl here ↦ rw (here, get_or-set_same words word new 0 lt) (fits-or (slice_index_or words word 0) (n % 64) (six.small word) (omega arith))
        | inr other ↦ rw (get_or-set_other words word i new 0 other) (six.small i)
      ];
    }

max_zero : (a b : ℕ) → b ≡ 0 → a ≡ max a b
max_zero a b none = omega (arith, none)

digit_of_power : (n k : ℕ) → k / 64 ≡ n / 64 → bit_at (2 ^ (n % 64)) (k % 64) ≡ bit_at (2 ^ n) k
digit_of_power n k word = elim (cases_eq k n) [
  | inl same ↦ ap (λ i. bit_at (2 ^ (n % 64)) (i % 64)) same ∙ bit_at-pow_same (n % 64) ∙ sym (ap (bit_at (2 ^ n)) same ∙ bit_at-pow_same n)
  | inr other ↦
      let apart : k % 64 ≢ n % 64 = omega (arith, word, other) in
      bit_at-pow_other (n % 64) (k % 64) apart ∙ sym (bit_at-pow_other n k other)
]

pub joined-set : (words : List ℕ) (n : ℕ) → n < 384 → AreSixWords words → record { code = joined (slice_set words (n / 64) (bit_or (slice_index_or words (n / 64) 0) (1 * 2 ^ (n % 64) % 2 ^ 64))) } ≡ with_number (record { code = joined words }) n
joined-set words n small six =
    let word = n / 64 in
    let place = n % 64 in
    let old = slice_index_or words word 0 in
    let new = bit_or old (1 * 2 ^ place % 2 ^ 64) in
    let after = slice_set words word new in
    let lt : word < length words = omega (arith, small, six.six) in
    let whole : joined after ≡ bit_or (joined words) (2 ^ n) = same_from_bits (joined after) (bit_or (joined words) (2 ^ n)) (λ k.
    bit_at-joined after k (six-set words n small six).small
    ∙ elim (cases_eq (k / 64) word) [
      | inl here ↦
          ap (λ i. bit_at (slice_index_or after i 0) (k % 64)) here
          ∙ ap (λ w. bit_at w (k % 64)) (get_or-set_same words word new 0 lt)
          ∙ bit_at_or old (1 * 2 ^ place % 2 ^ 64) (k % 64)
          ∙ ap (λ p. max (bit_at old (k % 64)) (bit_at p (k % 64))) (one_shl place 64 (omega arith))
          ∙ ap (max (bit_at old (k % 64))) (digit_of_power n k here)
          ∙ ap (λ i. max (bit_at (slice_index_or words i 0) (k % 64)) (bit_at (2 ^ n) k)) (sym here)
      | inr other ↦
          ap (λ w. bit_at w (k % 64)) (get_or-set_other words word (k / 64) new 0 other)
          ∙ max_zero (bit_at (slice_index_or words (k / 64) 0) (k % 64)) (bit_at (2 ^ n) k) (bit_at-pow_other n k (λ same. other (ap (λ i. i / 64) same)))
    ]
    ∙ ap (λ b. max b (bit_at (2 ^ n) k)) (sym (bit_at-joined words k six.small))
    ∙ sym (bit_at_or (joined words) (2 ^ n) k)) in
    same_code (record { code = joined after }) (with_number (record { code = joined words }) n) whole

-- ---- words without a digit

pub joined-none : (words : List ℕ) → ((i : ℕ) → slice_index_or words i 0 ≡ 0) → joined words ≡ 0
joined-none [] none = refl
joined-none (w ∷ ws) none = omega (arith, none 0, joined-none ws (λ i. none (suc i)))

pub no_member : (words : List ℕ) (j : ℕ) → AreSixWords words → ((i : ℕ) → slice_index_or words i 0 ≡ 0) → has (record { code = joined words }) j ≡ false
no_member words j six none = has-joined words j six ∙ ap (λ b. b == 1) (ap (λ w. bit_at w (j % 64)) (none (j / 64)) ∙ bit_at-zero (j % 64))

-- the highest digit of a word
top_of : (w : ℕ) → w < 2 ^ 64 → (w ≡ 0 → ⊥) → (bit_at w (63 - leading_zeros w64 w) ≡ 1) × (leading_zeros w64 w < 64) × ((j : ℕ) → 63 - leading_zeros w64 w < j → bit_at w j ≡ 0)
top_of w fits some =
    let top = leading_top 64 w (omega (arith, some)) fits in
    let at : top.0 ≡ 63 - leading_zeros w64 w = omega (arith, top.1) in
    (ap (bit_at w) (sym at) ∙ top_digit w top.0 top.2 top.3, omega (arith, top.1), λ j past. bit_at_above w (suc top.0) j top.3 (omega (arith, past, at)))

module _ (words : List ℕ) (n : ℕ) (six : AreSixWords words) (some : slice_index_or words n 0 ≡ 0 → ⊥) where
  pub last_member : has (record { code = joined words }) (64 * n + (63 - leading_zeros w64 (slice_index_or words n 0))) ≡ true
  last_member =
      let old = slice_index_or words n 0 in
      let top = top_of old (six.small n) some in
      let k = 64 * n + (63 - leading_zeros w64 old) in
      let word : k / 64 ≡ n = omega (arith, top.1) in
      let at : k % 64 ≡ 63 - leading_zeros w64 old = omega (arith, top.1) in
      has-joined words k six ∙ ap (λ b. b == 1) (ap (λ i. bit_at (slice_index_or words i 0) (k % 64)) word ∙ ap (bit_at old) at ∙ top.0)

  pub none_past : (j : ℕ) → ((i : ℕ) → n < i → slice_index_or words i 0 ≡ 0) → 64 * n + (63 - leading_zeros w64 (slice_index_or words n 0)) < j → has (record { code = joined words }) j ≡ false
  none_past j none past =
      let old = slice_index_or words n 0 in
      let top = top_of old (six.small n) some in
      has-joined words j six
      ∙ ap (λ b. b == 1) (elim (cases_eq (j / 64) n) [
        | inl here ↦ ap (λ i. bit_at (slice_index_or words i 0) (j % 64)) here ∙ top.2 (j % 64) (omega (arith, here, past, top.1))
        | inr other ↦ ap (λ w. bit_at w (j % 64)) (none (j / 64) (omega (arith, other, past, top.1))) ∙ bit_at-zero (j % 64)
      ])

-- ---- words or'ed together

joined_zero : (w rest : ℕ) → (rest * 2 ^ 64 + w == 0) ≡ ((w == 0) && (rest == 0))
joined_zero w rest = elim (cases_eq w 0) [
  | inl no_w ↦ elim (cases_eq rest 0) [
    | inl none ↦ rw (eq-eqb w 0 no_w, eq-eqb rest 0 none) (eq-eqb (rest * 2 ^ 64 + w) 0 (omega (arith, no_w, none)))
    | inr some ↦ rw (eq-eqb w 0 no_w, ne_eqb rest 0 some) (ne_eqb (rest * 2 ^ 64 + w) 0 (λ e. some (omega (arith, e))))
  ]
  | inr some ↦ rw (ne_eqb w 0 some) (ne_eqb (rest * 2 ^ 64 + w) 0 (λ e. some (omega (arith, e))))
]

and_assoc : (a b c : Bool) → ((a && b) && c) ≡ (a && (b && c))
and_assoc true b c = refl
and_assoc false b c = refl

pub none-next : (all w rest : ℕ) → ((bit_or all w == 0) && (rest == 0)) ≡ ((all == 0) && (rest * 2 ^ 64 + w == 0))
none-next all w rest =
    let left : FiniteSet = record { code = all } in
    let right : FiniteSet = record { code = w } in
    let both : FiniteSet = record { code = bit_or all w } in
    ap (λ b. b && (rest == 0)) (is_empty-either left right both (λ k. has-or left right both k refl))
    ∙ and_assoc (all == 0) (w == 0) (rest == 0) ∙ ap (λ b. (all == 0) && b) (sym (joined_zero w rest))

-- ---- the same words

joined_eq : (x y a b : ℕ) → x < 2 ^ 64 → y < 2 ^ 64 → ((x == y) && (a == b)) ≡ (a * 2 ^ 64 + x == b * 2 ^ 64 + y)
joined_eq x y a b p q = elim (cases_eq x y) [
  | inl same ↦ elim (cases_eq a b) [
    | inl alike ↦ rw (eq-eqb x y same, eq-eqb a b alike) (sym (eq-eqb (a * 2 ^ 64 + x) (b * 2 ^ 64 + y) (omega (arith, same, alike))))
    | inr other ↦ rw (eq-eqb x y same, ne_eqb a b other) (sym (ne_eqb (a * 2 ^ 64 + x) (b * 2 ^ 64 + y) (λ e. other (omega (arith, same, e)))))
  ]
  | inr other ↦ rw (ne_eqb x y other) (sym (ne_eqb (a * 2 ^ 64 + x) (b * 2 ^ 64 + y) (λ e. other (omega (arith, p, q, e)))))
]

pub same_words : (a b : List ℕ) → ((i : ℕ) → slice_index_or a i 0 < 2 ^ 64) → ((i : ℕ) → slice_index_or b i 0 < 2 ^ 64) → length a ≡ length b → pointwise ◌==◌ a b ≡ (joined a == joined b)
same_words [] [] p q e = refl
same_words [] (y ∷ ys) p q e = absurd (omega (arith, e))
same_words (x ∷ xs) [] p q e = absurd (omega (arith, e))
same_words (x ∷ xs) (y ∷ ys) p q e =
    ap (λ b. (x == y) && b) (same_words xs ys (λ i. p (suc i)) (λ i. q (suc i)) (omega (arith, e)))
    ∙ joined_eq x y (joined xs) (joined ys) (p 0) (q 0)

-- ---- gaps within a word

fits-shr : (w p : ℕ) → w < 2 ^ 64 → w / 2 ^ p < 2 ^ 64
fits-shr w p small = grind arith

module _ (words : List ℕ) (from : ℕ) where
  pub word-up : (j : ℕ) → AreSixWords words → from % 64 + j < 64 → j < trailing_zeros w64 (slice_index_or words (from / 64) 0 / 2 ^ (from % 64)) → has (record { code = joined words }) (from + j) ≡ false
  word-up j six inside lt =
      let at : (from + j) % 64 ≡ from % 64 + j = omega (arith, inside) in
      let word : (from + j) / 64 ≡ from / 64 = omega (arith, inside) in
      has-joined words (from + j) six
      ∙ ap (λ b. b == 1) (ap (λ i. bit_at (slice_index_or words i 0) ((from + j) % 64)) word ∙ ap (bit_at (slice_index_or words (from / 64) 0)) at
      ∙ zero-up (slice_index_or words (from / 64) 0) (from % 64) j (fits-shr (slice_index_or words (from / 64) 0) (from % 64) (six.small (from / 64))) lt)

  pub word_member-up : (n : ℕ) → AreSixWords words → n ≡ trailing_zeros w64 (slice_index_or words (from / 64) 0 / 2 ^ (from % 64)) → n < 64 - from % 64 → has (record { code = joined words }) (from + n) ≡ true
  word_member-up n six is inside =
      let old = slice_index_or words (from / 64) 0 in
      let at : (from + n) % 64 ≡ from % 64 + trailing_zeros w64 (old / 2 ^ (from % 64)) = omega (arith, inside, is) in
      let word : (from + n) / 64 ≡ from / 64 = omega (arith, inside) in
      has-joined words (from + n) six
      ∙ ap (λ b. b == 1) (ap (λ i. bit_at (slice_index_or words i 0) ((from + n) % 64)) word ∙ ap (bit_at old) at
      ∙ one-up old (from % 64) (fits-shr old (from % 64) (six.small (from / 64))) (omega (arith, is, inside)))

  pub word-down : (j : ℕ) → AreSixWords words → j ≤ from % 64 → j < leading_zeros w64 (slice_index_or words (from / 64) 0 * 2 ^ (63 - from % 64) % 2 ^ 64) → has (record { code = joined words }) (from - j) ≡ false
  word-down j six inside lt =
      let at : (from - j) % 64 ≡ from % 64 - j = omega (arith, inside) in
      let word : (from - j) / 64 ≡ from / 64 = omega (arith, inside) in
      has-joined words (from - j) six
      ∙ ap (λ b. b == 1) (ap (λ i. bit_at (slice_index_or words i 0) ((from - j) % 64)) word ∙ ap (bit_at (slice_index_or words (from / 64) 0)) at
      ∙ zero-down (slice_index_or words (from / 64) 0) (from % 64) j (omega arith) inside lt)

  pub word_member-down : (n : ℕ) → AreSixWords words → n ≡ leading_zeros w64 (slice_index_or words (from / 64) 0 * 2 ^ (63 - from % 64) % 2 ^ 64) → n < from % 64 + 1 → has (record { code = joined words }) (from - n) ≡ true
  word_member-down n six is inside =
      let old = slice_index_or words (from / 64) 0 in
      let it = one-down old (from % 64) (omega arith) (omega (arith, is, inside)) in
      let at : (from - n) % 64 ≡ from % 64 - leading_zeros w64 (old * 2 ^ (63 - from % 64) % 2 ^ 64) = omega (arith, inside, is) in
      let word : (from - n) / 64 ≡ from / 64 = omega (arith, inside) in
      has-joined words (from - n) six
      ∙ ap (λ b. b == 1) (ap (λ i. bit_at (slice_index_or words i 0) ((from - n) % 64)) word ∙ ap (bit_at old) at ∙ it.1)
