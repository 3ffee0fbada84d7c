use Rattle.chrono_units.proofs.SetDigitLemmas.{stored_number}
use Rattle.chrono_units.proofs.weekday_set.WeekdaySetHash.hash.Goals as goal

pub returns : goal.returns
returns g c = rw (stored_number _ _ c.self.invariant c.self.view_is) at c.hash.ensures
