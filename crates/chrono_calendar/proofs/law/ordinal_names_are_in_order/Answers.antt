use Rattle.chrono_calendar.proofs.Order.{ordinal_cmp-numbers}
use Rattle.chrono_calendar.proofs.law.ordinal_names_are_in_order.Goals as goal

pub returns : goal.returns
returns c = ordinal_cmp-numbers
