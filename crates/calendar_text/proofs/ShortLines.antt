-- Lines that are folded are short.
use Rattle.std.proofs.Common.{◌≡◌, ℕ, ◌+◌, ◌<◌, ◌≤◌, ◌==◌, Bool, true, false, List, [], ◌∷◌, ◌++◌, pos, arith, refl, ap, ◌∙◌}
use Rattle.std.specs.Prelude.{codes, nat_le, ◌&&◌, if◌then◌else◌}
use Rattle.std.proofs.lemmas.Bool.{and_from, eqb-false, le-leb}
use Rattle.std.proofs.lemmas.Int.{by_lt_z, ints}
use Rattle.calendar_text.specs.Folds.{are_short, folded, folded_behind}

-- a byte that is no line feed makes the line longer by one
longer : (column b : ℕ) (rest : List ℕ) → (b == 10) ≡ false → are_short column (b ∷ rest) ≡ are_short (column + 1) rest
longer column b rest other = ap (λ (t : Bool). if t then nat_le column 76 && are_short 0 rest else are_short (column + 1) rest) other

below : (column : ℕ) → column ≤ 75 → (column ≡ 75 → ⊥) → column < 75
below column few not_full = by_lt_z (pos column) (pos 75) (λ lt. omega (arith, ints, lt)) (λ ge. absurd (not_full (omega (arith, ints, few, ge))))

-- a byte with its line break, with its fold, and as it is
cases : (column b : ℕ) (bs : List ℕ) (t : Bool) → (b == 10) ≡ t → (u : Bool) → (column == 75) ≡ u → column ≤ 75 → ((k : ℕ) → k ≤ 75 → are_short k (folded_behind k bs) ≡ true)
    → are_short column ((if t then codes "\r\n" else if u then codes "\r\n " ++ b ∷ [] else b ∷ []) ++ folded_behind (if t then 0 else if u then 2 else column + 1) bs) ≡ true
cases column b bs true line u full few rest =
    and_from (nat_le (column + 1) 76) (are_short 0 (folded_behind 0 bs)) (le-leb (column + 1) 76 (omega (arith, few))) (rest 0 (omega arith))
cases column b bs false line true full few rest =
    and_from (nat_le (column + 1) 76) (are_short 1 (b ∷ folded_behind 2 bs)) (le-leb (column + 1) 76 (omega (arith, few))) (longer 1 b (folded_behind 2 bs) line ∙ rest 2 (omega arith))
cases column b bs false line false full few rest =
    let less : column < 75 = below column few (eqb-false column 75 full) in
    longer column b (folded_behind (column + 1) bs) line ∙ rest (column + 1) (omega (arith, less))

short_behind : (column : ℕ) (text : List ℕ) → column ≤ 75 → are_short column (folded_behind column text) ≡ true
unfolding folded_behind
short_behind column [] few = le-leb column 75 few
short_behind column (b ∷ bs) few = cases column b bs (b == 10) refl (column == 75) refl few (λ k le. short_behind k bs le)

pub folded_short : (text : List ℕ) → are_short 0 (folded text) ≡ true
folded_short text = short_behind 0 text (omega arith)
