use Rattle.chrono_calendar.proofs.MonthMoveLaws.{month_move-range}
use Rattle.chrono_calendar.proofs.law.month_moves_reach_dates.Goals as goal

pub returns : goal.returns
returns c = month_move-range
