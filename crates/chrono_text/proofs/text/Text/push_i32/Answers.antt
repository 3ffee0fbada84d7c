use Rattle.std.proofs.Common.{length, length-append, ap, rules, arith}
use Rattle.chrono_text.proofs.Decimals.{at_most, one_at_most}
use Rattle.chrono_text.proofs.text.Text.push_i32.Goals as goal

pub returns-clause-fits : goal.returns-clause-fits
returns-clause-fits g c =
    let digits = simp length-append at (ap length c.push_natural.ensures) in
    omega (arith, digits, one_at_most _ _ _ _ c.push_if.ensures, at_most 10 c.from.result (omega arith) (omega arith) (omega arith))

pub push_natural-requires : goal.push_natural-requires
push_natural-requires g c =
    let sign = one_at_most _ _ _ _ c.push_if.ensures in
    (search rules, (omega arith, omega (arith, sign)))
