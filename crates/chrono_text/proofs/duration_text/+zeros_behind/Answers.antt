use Rattle.std.proofs.Common.{◌*◌, ap, arith}
use Rattle.std.proofs.lemmas.Nat.{pow-add}
use Rattle.chrono_text.proofs.duration_text.+zeros_behind.Goals as goal

pub returns-clause-zeros : goal.returns-clause-zeros
returns-clause-zeros t c =
    let (front, is, some) = c.zeros_behind.ensures.zeros in
    (front, omega (arith, is, ap (λ unit. front * unit) (pow-add 10 c.zeros_behind.result 1)), some)
