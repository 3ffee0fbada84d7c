-- The lowest digits of a number, and one more.
use Rattle.std.proofs.Common.{◌≡◌, ◌∙◌, ◌+◌, ◌*◌, ◌%◌, ◌^◌, ◌<◌, ◌≤◌, ◌==◌, ℕ, true, false, ap, sym, arith}
use Rattle.std.specs.Prelude.{bit_or, nat_lt}
use Rattle.std.specs.Int.{bit_at}
use Rattle.std.proofs.lemmas.Bool.{and_parts, eqb-false, eqb-true, ltb-true}
use Rattle.std.proofs.lemmas.Nat.{mod-pow-add, or_comm, or_shifted, pow_pos}
use Rattle.std.proofs.lemmas.Nat.Bits.{bit_at-lt}
use Rattle.std.proofs.Math.Nat.{pow-le-pow_right}
use Rattle.chrono_sets.specs.FiniteSets.{FiniteSet, has}
use Rattle.chrono_sets.proofs.Members.{lies_within-all, same_code}
use Rattle.layers_c.specs.NumberSets.{set_of_digits}

-- one digit more, as a sum
split_off : (d n : ℕ) → d % 2 ^ (n + 1) ≡ bit_at d n * 2 ^ n + d % 2 ^ n
split_off d n = ap (λ k. d % 2 ^ k) (omega arith) ∙ mod-pow-add d 1 n

low_mod : (d n : ℕ) → d % 2 ^ n < 2 ^ n
low_mod d n = omega (arith, pow_pos n)

-- it is 1
pub one_more : (d n s : ℕ) → s ≡ d % 2 ^ n → bit_at d n ≡ 1 → bit_or s (2 ^ n) ≡ d % 2 ^ (n + 1)
one_more d n s before one =
    ap (λ a. bit_or a (2 ^ n)) before ∙ or_comm (d % 2 ^ n) (2 ^ n)
    ∙ ap (λ a. bit_or a (d % 2 ^ n)) (omega arith) ∙ or_shifted 1 n (d % 2 ^ n) (low_mod d n)
    ∙ ap (λ b. b * 2 ^ n + d % 2 ^ n) (sym one) ∙ sym (split_off d n)

-- it is 0
pub none_more : (d n s : ℕ) → s ≡ d % 2 ^ n → bit_at d n ≡ 0 → s ≡ d % 2 ^ (n + 1)
none_more d n s before none =
    before ∙ omega (arith, none, split_off d n, ap (λ b. b * 2 ^ n) none)

-- the test for a member
pub member-one : (s : FiniteSet) (k : ℕ) → has s k ≡ true → bit_at s.code k ≡ 1
unfolding has
member-one s k h = eqb-true (bit_at s.code k) 1 h

pub no_member-zero : (s : FiniteSet) (k : ℕ) → has s k ≡ false → bit_at s.code k ≡ 0
unfolding has
no_member-zero s k h = omega (arith, bit_at-lt s.code k, eqb-false (bit_at s.code k) 1 h)

-- the digits of a set of small numbers are all there
pub whole : (s : FiniteSet) (low end : ℕ) → end ≤ 64 → ((k : ℕ) → has s k ≡ true → (low ≤ k) × (k < end)) → s.code % 2 ^ 64 ≡ s.code
whole s low end few all =
    let within = and_parts (s.code % 2 ^ low == 0) (nat_lt s.code (2 ^ end)) (lies_within-all low end s all) in
    let small = ltb-true s.code (2 ^ end) within.1 in
    let most : 2 ^ end ≤ 2 ^ 64 = pow-le-pow_right (omega arith) few in
    omega (arith, small, most)

-- so their set is the set
pub whole_set : (digits : ℕ) (s : FiniteSet) (low end : ℕ) → digits ≡ s.code % 2 ^ 64 → end ≤ 64
    → ((k : ℕ) → has s k ≡ true → (low ≤ k) × (k < end)) → set_of_digits digits ≡ s
whole_set digits s low end is few all = same_code (set_of_digits digits) s (is ∙ whole s low end few all)
