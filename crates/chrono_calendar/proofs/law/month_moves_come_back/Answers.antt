use Rattle.chrono_calendar.proofs.MonthMoveLaws.{year_of-range, month_move-ComesBack}
use Rattle.chrono_calendar.proofs.law.month_moves_come_back.Goals as goal

pub returns : goal.returns
returns c n k back e h zero moved = month_move-ComesBack n k back e zero (year_of-range n h) moved
