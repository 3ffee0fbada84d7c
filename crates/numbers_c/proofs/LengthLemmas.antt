-- A text that fits is written whole.
use Rattle.std.proofs.Common.{◌≡◌, ℕ, ◌≤◌, nat_le, true, List, length, Some, arith, ap, pos}
use Rattle.std.proofs.lemmas.Bool.Decides.{nat_tests}
use Rattle.numbers_c.specs.Answers.{count_or_none}
use Rattle.numbers_c.specs.Texts.{length_of, text_within}

pub enough : (written text : List ℕ) (room : ℕ) → written ≡ text → length written ≤ room → count_or_none (length_of (text_within room (Some written))) ≡ pos (length text)
enough written text room e h =
    let test : nat_le (length written) room ≡ true = grind (arith, nat_tests, h) in
    rw test (ap (λ (t : List ℕ). pos (length t)) e)
