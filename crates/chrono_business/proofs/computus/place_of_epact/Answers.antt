use Rattle.std.proofs.Common.{refl, arith}
use Rattle.chrono_datetime.proofs.Signed.{signed}
use Rattle.chrono_business.proofs.EasterLemmas.{place-of_year}
use Rattle.chrono_business.proofs.computus.place_of_epact.Goals as goal

pub returns-clause-value : goal.returns-clause-value
returns-clause-value c = place-of_year c.args.year _ _ refl (omega (arith, signed, c.requires))
