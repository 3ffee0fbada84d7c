use Rattle.std.proofs.Common.{◌≡◌, ◌∙◌, ap, sym, arith}
use Rattle.std.specs.Int.{bit_at}
use Rattle.std.proofs.lemmas.Nat.Bits.{shr_and_one, bit_at-lt}
use Rattle.chrono_sets.specs.FiniteSets.{code_of}
use Rattle.layers_c.proofs.DigitLemmas.{one_more, none_more}
use Rattle.layers_c.proofs.number_sets.with_digit.Goals as goal

pub returns-then-digits-number-eq1 : goal.returns-then-digits-number-eq1
returns-then-digits-number-eq1 c =
    ap code_of c.with.ensures.set
    ∙ one_more c.args.digits c.args.number c.args.set.code c.requires.before (sym (shr_and_one c.args.digits c.args.number) ∙ c.if-digits-number-eq1.true)

pub returns-else-digits-number-eq1 : goal.returns-else-digits-number-eq1
returns-else-digits-number-eq1 c =
    let other : bit_at c.args.digits c.args.number ≡ 1 → ⊥ = λ e. c.if-digits-number-eq1.false (shr_and_one c.args.digits c.args.number ∙ e) in
    none_more c.args.digits c.args.number c.args.set.code c.requires.before (omega (arith, bit_at-lt c.args.digits c.args.number, other))
