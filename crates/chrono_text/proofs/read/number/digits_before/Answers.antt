use Rattle.std.proofs.Common.{◌≡◌, ◌<◌, ℕ, length, get_or, ap, sym, ◌∙◌, subst, arith}
use Rattle.std.specs.Int.{IsInRange}
use Rattle.std.proofs.lemmas.List.{get_or-take}
use Rattle.chrono_text.proofs.LaneLemmas.{all_digits}
use Rattle.chrono_text.proofs.read.number.digits_before.Goals as goal

pub returns-clause-digits : goal.returns-clause-digits
returns-clause-digits c =
    let bytes = c.in_ok-len.bytes.now in
    let text = c.args.text.now in
    let len = c.in_ok-len.len in
    let front = c.in_ok-len.ensures in
    let same : (k : ℕ) → k < length text → get_or bytes k 0 ≡ get_or text k 0 = λ k lt. sym (get_or-take (length text) bytes k 0 lt) ∙ ap (λ l. get_or l k 0) front.starts in
    all_digits text len (omega arith) (λ k lt. subst (IsInRange 48 57) (same k (omega arith)) (front.digits k lt))
