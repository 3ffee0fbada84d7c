use Rattle.std.proofs.Common.{arith}
use Rattle.chrono_text.proofs.Decimals.{one_at_most}
use Rattle.chrono_text.proofs.text.Text.push_year.Goals as goal

pub returns-clause-fits : goal.returns-clause-fits
returns-clause-fits g c =
    let sign = one_at_most _ _ _ _ c.push_if.ensures in
    omega (arith, sign, c.push_year_digits.ensures.fits)
