use Rattle.std.proofs.Common.{ℕ, ◌+◌, List, [], ◌∷◌, ◌++◌, append_assoc, ap, sym, ◌∙◌, arith}
use Rattle.chrono_pattern.specs.GroupParts.{spaced}
use Rattle.chrono_pattern.proofs.WriteLemmas.{spaced_digit}
use Rattle.chrono_pattern.proofs.number.put_spaced.Goals as goal

pub returns-clause-text : goal.returns-clause-text
unfolding spaced
returns-clause-text g c =
    let before = c.args.text.now in
    let digit = (48 + c.args.n) ∷ [] in
    c.put_digit.ensures ∙ ap (λ (l : List ℕ). l ++ digit) c.push.ensures ∙ append_assoc before (32 ∷ []) digit
    ∙ ap (λ (l : List ℕ). before ++ l) (sym (spaced_digit c.args.n (omega (arith, c.if-n-ge10.false))))
