-- A column that is moved in its place, element by element.
use Rattle.std.proofs.Common.{◌≡◌, ◌∙◌, ℕ, suc, ℤ, pos, ◌+◌, ◌<◌, List, [], ◌∷◌, ◌++◌, length, take, drop, map, get_or, slice_set, append_assoc, add-one, refl, arith}
use Rattle.std.proofs.Math.Seq.{drop-cons}
use Rattle.std.proofs.lemmas.List.{take_more_set, drop-set-lt}

-- one element more is moved
pub moved_on : (f : ℤ → ℤ) (xs : List ℤ) (i : ℕ) (y : ℤ) → i < length xs → y ≡ f (get_or xs i (pos 0)) → take (i + 1) (slice_set xs i y) ++ map f (drop (i + 1) (slice_set xs i y)) ≡ take i xs ++ map f (drop i xs)
moved_on f xs i y h e =
    rw (take_more_set xs i y h, drop-set-lt (i + 1) xs i y (omega arith), add-one i, drop-cons xs i (pos 0) h, e) (append_assoc (take i xs) (f (get_or xs i (pos 0)) ∷ []) (map f (drop (suc i) xs)) ∙ refl)
