use Rattle.chrono_calendar.proofs.MonthMoveLaws.{month_move-MonthMovesAddUp}
use Rattle.chrono_calendar.proofs.law.month_moves_add_up.Goals as goal

pub returns : goal.returns
returns c = month_move-MonthMovesAddUp
