-- Numbers that lie whole intervals apart.
use Rattle.std.proofs.Common.{◌≡◌, ℕ, suc, ◌+◌, ◌*◌, ◌/◌, ◌%◌, ◌<◌, refl, sym, ap, ◌∙◌, arith, ℤ, pos, negsuc, ◌+ℤ◌, ◌-ℤ◌, ◌*ℤ◌, ◌≤ℤ◌, ◌<ℤ◌, unsigned_abs}
use Rattle.std.specs.Int.{int_rem_euclid}
use Rattle.std.proofs.lemmas.Int.{by_lt_z, int_rem_euclid_is, ints}
use Rattle.std.proofs.lemmas.Nat.{div-add-mod', mod-mul-add}
use Rattle.chrono_rules.proofs.Intervals.{many, rem-ahead}

-- what is left of a number behind whole intervals, as what is left of a natural number
record IsLifted (a : ℤ) (n : ℕ) : Type 0 where
  pub lifted : ℕ
  pub is : a +ℤ pos (unsigned_abs a * n) ≡ pos lifted
  pub left : unsigned_abs (int_rem_euclid a (pos n)) ≡ lifted % n

lift : (a : ℤ) (n : ℕ) → 0 < n → IsLifted a n
lift a n some =
    let k : ℕ = unsigned_abs a in
    let m : ℕ = unsigned_abs (a +ℤ pos (k * n)) in
    let up : a +ℤ pos (k * n) ≡ pos m = omega (arith, ints, many k n some) in
    record { lifted = m; is = up; left = ap unsigned_abs (int_rem_euclid_is a (pos n) n k m some refl up) }

pub rem-less : (a : ℤ) (n : ℕ) → 0 < n → unsigned_abs (int_rem_euclid a (pos n)) < n
rem-less a n some = let l = lift a n some in omega (arith, l.left, some)

-- from a number that is left out up to the next that counts, each is left out
pub off-ahead : (a b : ℤ) (n : ℕ) → 0 < n → 0 < unsigned_abs (int_rem_euclid a (pos n)) → a ≤ℤ b → b <ℤ (a +ℤ (pos n -ℤ pos (unsigned_abs (int_rem_euclid a (pos n))))) → 0 < unsigned_abs (int_rem_euclid b (pos n))
off-ahead a b n some left low high =
    let j : ℕ = unsigned_abs (b -ℤ a) in
    let at : a +ℤ pos j ≡ b = omega (arith, ints, low) in
    let is : unsigned_abs (int_rem_euclid b (pos n)) ≡ unsigned_abs (int_rem_euclid a (pos n)) + j =
    ap (λ (z : ℤ). unsigned_abs (int_rem_euclid z (pos n))) (sym at) ∙ rem-ahead a n j some (omega (arith, ints, low, high, at)) in
    omega (arith, is, left)

-- behind a number that counts, up to the next
pub off-behind-whole : (a b : ℤ) (n : ℕ) → 0 < n → a <ℤ b → b <ℤ (a +ℤ (pos n -ℤ pos (unsigned_abs (int_rem_euclid a (pos n))))) → 0 < unsigned_abs (int_rem_euclid b (pos n))
off-behind-whole a b n some low high =
    let j : ℕ = unsigned_abs (b -ℤ a) in
    let at : a +ℤ pos j ≡ b = omega (arith, ints, low) in
    let is : unsigned_abs (int_rem_euclid b (pos n)) ≡ unsigned_abs (int_rem_euclid a (pos n)) + j =
    ap (λ (z : ℤ). unsigned_abs (int_rem_euclid z (pos n))) (sym at) ∙ rem-ahead a n j some (omega (arith, ints, low, high, at)) in
    omega (arith, ints, is, low, at)

-- back to the last that counts
pub off-back : (a b : ℤ) (n : ℕ) → 0 < n → b ≤ℤ a → (a -ℤ pos (unsigned_abs (int_rem_euclid a (pos n)))) <ℤ b → 0 < unsigned_abs (int_rem_euclid b (pos n))
off-back a b n some high low =
    let j : ℕ = unsigned_abs (a -ℤ b) in
    let at : b +ℤ pos j ≡ a = omega (arith, ints, high) in
    let less = rem-less a n some in
    by_lt_z (pos 0) (pos (unsigned_abs (int_rem_euclid b (pos n)))) (λ some. omega (arith, ints, some))
    (λ none.
    let e : unsigned_abs (int_rem_euclid b (pos n)) ≡ 0 = omega (arith, ints, none) in
    let is : unsigned_abs (int_rem_euclid a (pos n)) ≡ unsigned_abs (int_rem_euclid b (pos n)) + j =
    ap (λ (z : ℤ). unsigned_abs (int_rem_euclid z (pos n))) (sym at) ∙ rem-ahead b n j some (omega (arith, ints, e, less, low, at)) in
    absurd (omega (arith, ints, is, e, low, at)))

-- ---- a common measure of the interval and of a day

whole : (m n : ℕ) → m % n ≡ 0 → m ≡ m / n * n
whole m n none = omega (arith, div-add-mod' m n)

-- a multiple of s is one of g, if s is
through : (q s g : ℕ) → s % g ≡ 0 → q * s ≡ (q * (s / g)) * g
through q s g none = omega (arith, ap (λ x. q * x) (whole s g none))

pos_times : (x n : ℕ) → pos x *ℤ pos n ≡ pos (x * n)
pos_times x n = omega (arith, ints)

left-by : (z : ℤ) (g k j : ℕ) → 0 < g → z +ℤ pos (k * g) ≡ pos (j * g) → unsigned_abs (int_rem_euclid z (pos g)) ≡ 0
left-by z g k j some e =
    let none : (j * g) % g ≡ 0 = ap (λ x. x % g) (omega arith) ∙ mod-mul-add j g 0 some in
    ap unsigned_abs (int_rem_euclid_is z (pos g) g k (j * g) some refl e) ∙ none

sum_times : (b c g : ℕ) → (b + c) * g ≡ b * g + c * g
sum_times b c g = omega arith

minus_times : (x n : ℕ) → (negsuc x *ℤ pos n) +ℤ pos (suc x * n) ≡ pos 0
minus_times x n = omega (arith, ints)

-- whole days later or earlier, what is left by the common measure is none
pub none-left : (a m : ℤ) (s n g : ℕ) → 0 < s → 0 < g → s % g ≡ 0 → n % g ≡ 0 → unsigned_abs (int_rem_euclid a (pos s)) ≡ 0 → unsigned_abs (int_rem_euclid (a +ℤ m *ℤ pos n) (pos g)) ≡ 0
none-left a (pos x) s n g some-s some-g whole-s whole-n none =
    let l = lift a s some-s in
    let k : ℕ = unsigned_abs a in
    let q : ℕ = l.lifted / s in
    let at : l.lifted ≡ q * s = whole l.lifted s (sym l.left ∙ none) in
    left-by (a +ℤ pos x *ℤ pos n) g (k * (s / g) + x * (n / g)) (q * (s / g) + (x * (n / g) + x * (n / g))) some-g
    (omega (arith, ints, l.is, at, pos_times x n, through k s g whole-s, through x n g whole-n, through q s g whole-s, sum_times (k * (s / g)) (x * (n / g)) g, sum_times (q * (s / g)) (x * (n / g) + x * (n / g)) g, sum_times (x * (n / g)) (x * (n / g)) g))
none-left a (negsuc x) s n g some-s some-g whole-s whole-n none =
    let l = lift a s some-s in
    let k : ℕ = unsigned_abs a in
    let q : ℕ = l.lifted / s in
    let at : l.lifted ≡ q * s = whole l.lifted s (sym l.left ∙ none) in
    left-by (a +ℤ negsuc x *ℤ pos n) g (k * (s / g) + suc x * (n / g)) (q * (s / g)) some-g
    (omega (arith, ints, l.is, at, minus_times x n, through k s g whole-s, through (suc x) n g whole-n, through q s g whole-s, sum_times (k * (s / g)) (suc x * (n / g)) g))
