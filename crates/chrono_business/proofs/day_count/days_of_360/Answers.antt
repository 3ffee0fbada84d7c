use Rattle.std.proofs.Common.{◌∙◌, arith, rules, FitsSigned, w64}
use Rattle.std.proofs.lemmas.Int.{to_z-of_z}
use Rattle.chrono_datetime.proofs.Signed.{signed}
use Rattle.chrono_business.proofs.day_count.days_of_360.Goals as goal

pub returns : goal.returns
returns c =
    let fits : FitsSigned w64 c.difference.result = search rules in
    to_z-of_z w64 c.difference.result fits
    ∙ omega (arith, signed, c.difference.ensures, c.days_360.ensures.value, c.days_360-2.ensures.value)
