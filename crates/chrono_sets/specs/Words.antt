-- A set of numbers as words of 64 binary digits.
use Rattle.std.specs.Prelude.{◌≡◌, ℕ, zero, suc, ◌+◌, ◌*◌, ◌/◌, ◌%◌, ◌^◌, ◌<◌, List, [], ◌∷◌, length, slice_index_or}
use Rattle.std.proofs.Common.{refl, sym, ap, ap₂, ◌∙◌, arith}

-- the number whose digits the words are, the lowest first
abbrev pub joined : List ℕ → ℕ
joined [] = 0
joined (w ∷ ws) = joined ws * 2 ^ 64 + w

-- the lowest `count` words of a number
abbrev pub words_of : ℕ → ℕ → List ℕ
words_of zero n = []
words_of (suc count) n = n % 2 ^ 64 ∷ words_of count (n / 2 ^ 64)

-- six words
pub record AreSixWords (words : List ℕ) : Type 0 where
  pub six : length words ≡ 6
  pub small : (i : ℕ) → slice_index_or words i 0 < 2 ^ 64

-- the words of a number that words make are these
pub words_of-joined : (words : List ℕ) → ((i : ℕ) → slice_index_or words i 0 < 2 ^ 64) → words_of (length words) (joined words) ≡ words
words_of-joined [] small = refl
words_of-joined (w ∷ ws) small =
    let first : (joined ws * 2 ^ 64 + w) % 2 ^ 64 ≡ w = omega (arith, small 0) in
    let rest : (joined ws * 2 ^ 64 + w) / 2 ^ 64 ≡ joined ws = omega (arith, small 0) in
    ap₂ ◌∷◌ first (ap (words_of (length ws)) rest ∙ words_of-joined ws (λ i. small (suc i)))

pub words_of-six : (words : List ℕ) → AreSixWords words → words_of 6 (joined words) ≡ words
words_of-six words six = ap (λ count. words_of count (joined words)) (sym six.six) ∙ words_of-joined words six.small
