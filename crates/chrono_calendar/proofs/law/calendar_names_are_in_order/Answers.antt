use Rattle.chrono_calendar.proofs.Order.{calendar_cmp-numbers}
use Rattle.chrono_calendar.proofs.law.calendar_names_are_in_order.Goals as goal

pub returns : goal.returns
returns c = calendar_cmp-numbers
