use Rattle.std.proofs.Common.{arith}
use Rattle.chrono_text.proofs.Signed.{signed}
use Rattle.chrono_calendar.proofs.law.dates_are_counted.Goals as goal

pub returns-clause-all : goal.returns-clause-all
returns-clause-all c = λ n h. omega (arith, signed, h.0, h.1)

pub returns-clause-on : goal.returns-clause-on
returns-clause-on c = λ n h. omega (arith, signed, h.1)

pub returns-clause-back : goal.returns-clause-back
returns-clause-back c = λ n h after. omega (arith, signed, after)
