use Rattle.chrono_calendar.proofs.IsoOrder.{iso_cmp-numbers}
use Rattle.chrono_calendar.proofs.law.iso_names_are_in_order.Goals as goal

pub returns : goal.returns
returns c = iso_cmp-numbers
