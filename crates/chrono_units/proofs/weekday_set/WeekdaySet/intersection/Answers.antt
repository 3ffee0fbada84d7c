use Rattle.chrono_units.proofs.SetDigitLemmas.{set_at-and}
use Rattle.chrono_units.proofs.weekday_set.WeekdaySet.intersection.Goals as goal

pub returns : goal.returns
returns c = rw (← c.self.view_is, ← c.other.view_is) (set_at-and c.self.inside.digits c.other.inside.digits)
