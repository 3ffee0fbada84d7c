use Rattle.std.proofs.Common.{arith}
use Rattle.chrono_datetime.proofs.Signed.{casts}
use Rattle.chrono_business.proofs.EasterLemmas.{moon-is}
use Rattle.chrono_business.proofs.computus.days_to_full_moon.Goals as goal

pub returns-clause-value : goal.returns-clause-value
returns-clause-value c =
    omega (arith, casts, c.moon_of_year.ensures.few, moon-is c.args.year _ c.moon_of_year.result c.moon_of_year.ensures.value (omega (arith, casts, c.requires)))
