use Rattle.chrono_units.proofs.SetPlaces.{first_day-set_at}
use Rattle.chrono_units.proofs.weekday_set.lowest_day.Goals as goal

pub returns : goal.returns
returns c = first_day-set_at c.args.digits c.requires c.from_u32.result c.from_u32.ensures
