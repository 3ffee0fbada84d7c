-- A text that was written over bytes was written whole.
use Rattle.std.proofs.Common.{◌≡◌, ◌∙◌, ℕ, nat_le, Bool, true, false, if◌then◌else◌, List, length, Some, None, ap, ℤ, pos}
use Rattle.numbers_c.specs.Answers.{count_or_none, none_number}
use Rattle.numbers_c.specs.Texts.{length_of, text_within}

said-when : (b : Bool) (written text : List ℕ) (result : ℤ) → result ≡ count_or_none (length_of (if b then Some written else None)) → (result ≡ none_number → ⊥) → written ≡ text
    → ((if b then Some written else None) ≡ Some text) × (result ≡ pos (length text))
said-when true written text result e some same = (ap Some same, e ∙ ap (λ (t : List ℕ). pos (length t)) same)
said-when false written text result e some same = absurd (some e)

pub said : (room : ℕ) (written text : List ℕ) (result : ℤ) → result ≡ count_or_none (length_of (text_within room (Some written))) → (result ≡ none_number → ⊥) → written ≡ text
    → (text_within room (Some written) ≡ Some text) × (result ≡ pos (length text))
said room written text result e some same = said-when (nat_le (length written) room) written text result e some same
