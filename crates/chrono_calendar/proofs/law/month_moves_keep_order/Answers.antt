use Rattle.chrono_calendar.proofs.MonthMoveLaws.{month_move-KeepsOrder}
use Rattle.chrono_calendar.proofs.law.month_moves_keep_order.Goals as goal

pub returns : goal.returns
returns c = month_move-KeepsOrder
