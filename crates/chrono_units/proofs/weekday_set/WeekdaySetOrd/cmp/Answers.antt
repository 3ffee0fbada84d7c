use Rattle.chrono_units.proofs.SetDigitLemmas.{stored_number}
use Rattle.chrono_units.proofs.weekday_set.WeekdaySetOrd.cmp.Goals as goal

pub returns : goal.returns
returns c = rw (stored_number _ _ c.self.invariant c.self.view_is, stored_number _ _ c.other.invariant c.other.view_is) at c.cmp.ensures
