use Rattle.chrono_units.proofs.SetDigitLemmas.{contains-set_at}
use Rattle.chrono_units.proofs.weekday_set.WeekdaySet.contains.Goals as goal

pub returns : goal.returns
returns c = rw (c.digit.ensures, ← c.self.view_is) (contains-set_at c.self.inside.digits c.args.day)
