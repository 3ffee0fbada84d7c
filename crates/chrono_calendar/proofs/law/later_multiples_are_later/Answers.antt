use Rattle.chrono_calendar.proofs.MonthMoveLaws.{month_move-LaterMultiplesAreLater}
use Rattle.chrono_calendar.proofs.law.later_multiples_are_later.Goals as goal

pub returns : goal.returns
returns c = month_move-LaterMultiplesAreLater
