use Rattle.std.proofs.Common.{◌≡◌, ◌==◌, ◌+◌, ◌-◌, ◌*◌, ◌^◌, ◌<◌, ◌≤◌, ℕ, true, inl, inr, get_or, refl, ap, sym, ◌∙◌, arith}
use Rattle.std.proofs.Math.Nat.{pow-le-pow_right, one-le-pow, mul-le-mul_left, mul-le-mul_right, mul_comm}
use Rattle.std.proofs.lemmas.Bool.{agree_below, agree_below_at, eqb-true, cases_lt}
use Rattle.chrono_text.specs.declared.read.lanes.TheConstants.{WEIGHTS}
use Rattle.chrono_text.proofs.read.lanes.share.Goals as goal

powers_tested : agree_below (λ n. get_or WEIGHTS n 0 == 10 ^ (7 - n)) (λ n. true) 8 ≡ true
powers_tested = refl

zeros_tested : agree_below (λ n. get_or WEIGHTS (8 + n) 0 == 0) (λ n. true) 8 ≡ true
zeros_tested = refl

power : (n : ℕ) → n < 8 → get_or WEIGHTS n 0 ≡ 10 ^ (7 - n)
power n lt = eqb-true _ _ (agree_below_at (λ n. get_or WEIGHTS n 0 == 10 ^ (7 - n)) (λ n. true) 8 n powers_tested lt)

nothing : (n : ℕ) → 8 ≤ n → n < 16 → get_or WEIGHTS n 0 ≡ 0
nothing n low high =
    let e : 8 + (n - 8) ≡ n = omega arith in
    ap (λ k. get_or WEIGHTS k 0) (sym e) ∙ eqb-true _ _ (agree_below_at (λ n. get_or WEIGHTS (8 + n) 0 == 0) (λ n. true) 8 (n - 8) zeros_tested (omega arith))

-- no weight is above that of the same place in eight digits
at_most : (n place : ℕ) → place ≤ n → n < 16 → get_or WEIGHTS n 0 ≤ 10 ^ (7 - place)
at_most n place after within = elim (cases_lt n 8) [
  | inl front ↦ let less : 10 ^ (7 - n) ≤ 10 ^ (7 - place) = pow-le-pow_right (omega arith) (omega arith) in omega (arith, power n front, less)
  | inr back ↦ omega (arith, nothing n back within)
]

product : (weight digit most : ℕ) → weight ≤ most → digit < 256 → 0 < most → weight * digit < 256 * most
product weight digit most light small some =
    let by_most : most * digit ≤ most * 255 = mul-le-mul_left most (omega arith) in
    omega (arith, mul-le-mul_right digit light, by_most)

pub overflow_mul-result : goal.overflow_mul-result
overflow_mul-result c =
    let n = 8 - c.args.len + c.args.place in
    record { fits = omega (arith, product (get_or WEIGHTS n 0) c.from.result 10_000_000 (at_most n 0 (omega arith) (omega arith)) (omega arith) (omega arith)) }

pub returns-clause-behind : goal.returns-clause-behind
returns-clause-behind c = λ behind. let n = 8 - c.args.len + c.args.place in rw (nothing n (omega arith) (omega arith)) (omega arith)

pub returns-clause-small : goal.returns-clause-small
returns-clause-small c =
    let n = 8 - c.args.len + c.args.place in
    product (get_or WEIGHTS n 0) c.from.result (10 ^ (7 - c.args.place)) (at_most n c.args.place (omega arith) (omega arith)) (omega arith) (one-le-pow (7 - c.args.place) 10 (omega arith))

pub returns-clause-inside : goal.returns-clause-inside
returns-clause-inside c = λ inside digit.
    let n = 8 - c.args.len + c.args.place in
    let place : 7 - n ≡ c.args.len - 1 - c.args.place = omega arith in
    let worth : c.from.result ≡ c.args.byte - 48 = omega (arith, c.digit.ensures.value digit) in
    rw (power n (omega arith), place, worth) (mul_comm (10 ^ (c.args.len - 1 - c.args.place)) (c.args.byte - 48))
