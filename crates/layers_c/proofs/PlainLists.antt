-- A list that is written as it is.
use Rattle.std.proofs.Common.{◌≡◌, ◌∙◌, ℕ, Bool, List, [], ◌∷◌, map, take, refl, sym, ap, ℤ}
use Rattle.std.specs.Prelude.{take_while}
use Rattle.layers_c.proofs.FilledLists.{shown}

all_same : (xs : List ℤ) → map (λ x. x) xs ≡ xs
all_same [] = refl
all_same (x ∷ xs) = ap (λ l. x ∷ l) (all_same xs)

pub begun : (p : ℤ → Bool) (room : ℕ) (ms whole : List ℤ) → ms ≡ whole → take room (take_while p whole) ≡ shown (λ n. n) p room ms
begun p room ms whole e = ap (λ ns. take room (take_while p ns)) (sym e) ∙ ap (take room) (sym (all_same (take_while p ms)))
