-- Numbers that lie whole intervals apart.
use Rattle.std.proofs.Common.{◌≡◌, ℕ, zero, suc, ◌+◌, ◌*◌, ◌/◌, ◌%◌, ◌<◌, ◌≤◌, refl, sym, ap, ◌∙◌, arith, ℤ, pos, ◌+ℤ◌, unsigned_abs}
use Rattle.std.specs.Int.{int_rem_euclid}
use Rattle.std.proofs.lemmas.Int.{int_rem_euclid_is, ints}
use Rattle.std.proofs.lemmas.Nat.{div-add-mod', mod-mul-add}

pub many : (k n : ℕ) → 0 < n → k ≤ k * n
many zero n some = omega arith
many (suc k) n some = omega (arith, many k n some)

-- what is left of a number behind multiples grows with it up to the next multiple
mod-ahead : (m n j : ℕ) → m % n + j < n → (m + j) % n ≡ m % n + j
mod-ahead m n j less =
    let parts : m + j ≡ m / n * n + (m % n + j) = omega (arith, div-add-mod' m n) in
    ap (λ x. x % n) parts ∙ mod-mul-add (m / n) n (m % n + j) less

pub rem-ahead : (a : ℤ) (n j : ℕ) → 0 < n → unsigned_abs (int_rem_euclid a (pos n)) + j < n → unsigned_abs (int_rem_euclid (a +ℤ pos j) (pos n)) ≡ unsigned_abs (int_rem_euclid a (pos n)) + j
rem-ahead a n j some less =
    let k : ℕ = unsigned_abs a in
    let m : ℕ = unsigned_abs (a +ℤ pos (k * n)) in
    let up : a +ℤ pos (k * n) ≡ pos m = omega (arith, ints, many k n some) in
    let here : unsigned_abs (int_rem_euclid a (pos n)) ≡ m % n = ap unsigned_abs (int_rem_euclid_is a (pos n) n k m some refl up) in
    let there : unsigned_abs (int_rem_euclid (a +ℤ pos j) (pos n)) ≡ (m + j) % n = ap unsigned_abs (int_rem_euclid_is (a +ℤ pos j) (pos n) n k (m + j) some refl (omega (arith, ints, up))) in
    there ∙ mod-ahead m n j (omega (arith, here, less)) ∙ ap (λ x. x + j) (sym here)
