-- A text that is short enough is written whole.
use Rattle.std.proofs.Common.{◌≡◌, ◌≤◌, ℕ, nat_le, Bool, true, false, if◌then◌else◌, List, length, Some, None, ℤ, refl}
use Rattle.std.proofs.lemmas.Bool.{le-leb, leb-true}
use Rattle.numbers_c.specs.Answers.{count_or_none, none_number}
use Rattle.numbers_c.specs.Texts.{length_of, text_within}

pub whole-text : (room : ℕ) (written : List ℕ) (result : ℤ) → result ≡ count_or_none (length_of (text_within room (Some written))) → length written ≤ room → result ≡ none_number → ⊥
whole-text room written result e fits none = let whole : nat_le (length written) room ≡ true = le-leb (length written) room fits in let now = rw whole at e in cc

-- a text that was written has room
within-when : (b : Bool) (written : List ℕ) (result : ℤ) → result ≡ count_or_none (length_of (if b then Some written else None)) → (result ≡ none_number → ⊥) → b ≡ true
within-when true written result e some = refl
within-when false written result e some = absurd (some e)

pub within-room : (room : ℕ) (written : List ℕ) (result : ℤ) → result ≡ count_or_none (length_of (text_within room (Some written))) → (result ≡ none_number → ⊥) → length written ≤ room
within-room room written result e some = leb-true (length written) room (within-when (nat_le (length written) room) written result e some)
