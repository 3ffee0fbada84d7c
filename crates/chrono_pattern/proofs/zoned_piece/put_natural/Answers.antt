use Rattle.std.proofs.Common.{ℕ, ◌/◌, ◌%◌, List, ◌++◌, append_assoc, ap, sym, ◌∙◌, arith}
use Rattle.std.specs.Fmt.{decimal}
use Rattle.chrono_text.proofs.Decimals.{decimal_cut}
use Rattle.chrono_text.specs.Text.{all_digits}
use Rattle.chrono_pattern.proofs.zoned_piece.put_natural.Goals as goal

pub returns-clause-text : goal.returns-clause-text
returns-clause-text g c =
    let n = c.args.n in
    let cut = decimal_cut 4 n (omega (arith, c.if-n-lt1000000000.false)) (omega (arith, c.requires.small)) in
    c.push_four.ensures
    ∙ ap (λ (l : List ℕ). l ++ all_digits 4 (n % 10_000)) c.push_u32-2.ensures.text
    ∙ append_assoc c.args.text.now (decimal (n / 10_000)) (all_digits 4 (n % 10_000))
    ∙ ap (λ (l : List ℕ). c.args.text.now ++ l) (sym cut)
