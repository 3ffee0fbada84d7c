use Rattle.chrono_units.proofs.SetPlaces.{ones-set_at}
use Rattle.chrono_units.proofs.weekday_set.WeekdaySet.len.Goals as goal

pub returns : goal.returns
returns c = rw (← c.self.view_is) (ones-set_at c.self.inside.digits c.self.invariant)
