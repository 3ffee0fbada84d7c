-- What an iterator over dates gives after `take`: the first of its dates.
use Rattle.std.proofs.Common.{◌≡◌, ℕ, zero, suc, ◌+◌, ◌<◌, List, [], ◌∷◌, length, take, ap, refl, ◌∙◌, arith, ℤ}
use Rattle.std.proofs.iter.runs.Sources.{as_is, from_front}
use Rattle.std.specs.Iterator.{YieldsFirst}
use Rattle.std.specs.Iterator.Adapters.{take_count, take_source, take_steps}
use Rattle.std.specs.Iterator.Runs.{YieldsInOrder}

-- the first of a list that is not empty, and of one that is
one_more : (n m : ℕ) (x : ℤ) (xs ys : List ℤ) → xs ≡ x ∷ ys → m + 1 ≡ n → take n xs ≡ x ∷ take m ys
one_more zero m x xs ys e h = absurd (omega (arith, h))
one_more (suc n) m x xs ys e h =
    let same : n ≡ m = omega (arith, h) in
    ap (take (suc n)) e ∙ ap (λ k. x ∷ take k ys) same

no_more : (n : ℕ) (xs : List ℤ) → (0 < n → xs ≡ []) → length (take n xs) ≡ 0
no_more zero xs e = refl
no_more (suc n) xs e = ap (λ l. length (take (suc n) l)) (e (omega arith))

pub taken_in_order : (rest : ℤ → List ℤ) → YieldsInOrder (take_steps (YieldsFirst rest)) (λ t. take (take_count t) (rest (take_source t)))
taken_in_order rest = λ p seen. as_is p (take (take_count p.from) (rest (take_source p.from)))
    (from_front (take_steps (YieldsFirst rest)) (λ x. x) (λ t. take (take_count t) (rest (take_source t)))
    (λ s t h. no_more (take_count s) (rest (take_source s)) (λ some. (h some).0))
    (λ s x t h. one_more (take_count s) (take_count t) x (rest (take_source s)) (rest (take_source t)) h.0 h.1)
    p seen)
