use Rattle.std.proofs.Common.{◌∙◌, arith}
use Rattle.std.proofs.lemmas.Bool.Decides.{nat_tests}
use Rattle.chrono_calendar.proofs.Weeks.{year_length-flags}
use Rattle.chrono_calendar.proofs.year_flags.YearFlags.ndays.Goals as goal

pub returns : goal.returns
returns c = λ y e. let length = year_length-flags y c.bits.result (c.bits.ensures.value ∙ e) in grind (arith, nat_tests)
