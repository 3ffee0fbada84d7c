-- How a text falls into a date of ten bytes, a separator, a time and an offset.
use Rattle.std.proofs.Common.{◌≡◌, ℕ, ◌+◌, List, [], ◌∷◌, ◌++◌, length, take, drop, refl, sym, ap, ◌∙◌, append_assoc, length-take-le, arith}
use Rattle.std.specs.Prelude.{get_or}
use Rattle.std.proofs.lemmas.List.{take-append-drop}
use Rattle.chrono_text.proofs.TextLemmas.{same_parts}

-- the last byte of a text is one
pub last_is : (front start rest : List ℕ) (b last : ℕ) → front ++ (start ++ b ∷ []) ≡ rest ++ last ∷ [] → b ≡ last
last_is front start rest b last e =
    let parts = same_parts (front ++ start) rest (b ∷ []) (last ∷ []) refl (append_assoc front start (b ∷ []) ∙ e) in
    ap (λ (l : List ℕ). get_or l 0 0) parts.1

-- the parts put together again
pub joined : (text front rest behind : List ℕ) (sep k : ℕ) → front ≡ take 10 text → rest ≡ drop 10 text → rest ≡ sep ∷ behind → front ++ sep ∷ take k behind ++ drop k behind ≡ text
joined text front rest behind sep k f r e =
    append_assoc front (sep ∷ take k behind) (drop k behind)
    ∙ ap (λ (l : List ℕ). front ++ (sep ∷ l)) (take-append-drop k behind)
    ∙ ap (λ (l : List ℕ). front ++ l) (sym e ∙ r)
    ∙ ap (λ (l : List ℕ). l ++ drop 10 text) f
    ∙ take-append-drop 10 text

-- a front of ten bytes
pub ten : (text front rest : List ℕ) → front ≡ take 10 text → length rest + 10 ≡ length text → length front ≡ 10
ten text front rest f long = ap (λ (l : List ℕ). length l) f ∙ length-take-le 10 text (omega (arith, long))
