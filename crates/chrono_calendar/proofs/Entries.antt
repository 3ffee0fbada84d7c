-- Tables: a list that passes the test of its rule, entry by entry, has the rule's value at each place.
use Rattle.std.proofs.Common.{◌≡◌, ℕ, zero, suc, ◌+◌, ◌<◌, Bool, true, ◌&&◌, nat_eq, List, [], ◌∷◌, length, get_or, ap, ◌∙◌, arith}
use Rattle.std.proofs.lemmas.Bool.{and_parts}
use Rattle.std.proofs.lemmas.Bool.Decides.{nat_tests}

-- each entry is what the rule gives at its place, counted from i
abbrev pub follows : (ℕ → ℕ) → ℕ → List ℕ → Bool
follows rule i [] = true
follows rule i (x ∷ xs) = nat_eq x (rule i) && follows rule (suc i) xs

follows-at : (rule : ℕ → ℕ) (i : ℕ) (xs : List ℕ) → follows rule i xs ≡ true → (k : ℕ) → k < length xs → get_or xs k 0 ≡ rule (i + k)
follows-at rule i [] h k inside = absurd (omega arith)
follows-at rule i (x ∷ xs) h zero inside = grind (arith, nat_tests)
follows-at rule i (x ∷ xs) h (suc k) inside =
    follows-at rule (suc i) xs ((and_parts (nat_eq x (rule i)) (follows rule (suc i) xs) h).1) k (omega arith) ∙ ap rule (omega arith)

-- the entry at a place of the whole table
pub entry : (rule : ℕ → ℕ) (table : List ℕ) → follows rule 0 table ≡ true → (k : ℕ) → k < length table → get_or table k 0 ≡ rule k
entry rule table h k inside = follows-at rule 0 table h k inside ∙ ap rule (omega arith)
