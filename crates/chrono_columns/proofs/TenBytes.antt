-- A text of ten bytes is those ten.
use Rattle.std.proofs.Common.{◌≡◌, ◌∙◌, ℕ, suc, ◌<◌, List, [], ◌∷◌, length, drop, get_or, ap, arith}
use Rattle.std.proofs.Math.Seq.{drop-cons}
use Rattle.std.proofs.lemmas.List.{drop_all}

pub next_byte : (t : List ℕ) (k : ℕ) (rest : List ℕ) → k < length t → drop (suc k) t ≡ rest → drop k t ≡ get_or t k 0 ∷ rest
next_byte t k rest h e = drop-cons t k 0 h ∙ ap (λ (r : List ℕ). get_or t k 0 ∷ r) e

pub ten_bytes : (t : List ℕ) → length t ≡ 10 → t ≡ get_or t 0 0 ∷ get_or t 1 0 ∷ get_or t 2 0 ∷ get_or t 3 0 ∷ get_or t 4 0 ∷ get_or t 5 0 ∷ get_or t 6 0 ∷ get_or t 7 0 ∷ get_or t 8 0 ∷ get_or t 9 0 ∷ []
ten_bytes t l =
    let end : drop 10 t ≡ [] = drop_all 10 t (omega (arith, l)) in
    next_byte t 0 _ (omega (arith, l)) (next_byte t 1 _ (omega (arith, l)) (next_byte t 2 _ (omega (arith, l)) (next_byte t 3 _ (omega (arith, l)) (next_byte t 4 _ (omega (arith, l))
    (next_byte t 5 _ (omega (arith, l)) (next_byte t 6 _ (omega (arith, l)) (next_byte t 7 _ (omega (arith, l)) (next_byte t 8 _ (omega (arith, l)) (next_byte t 9 _ (omega (arith, l)) end)))))))))
