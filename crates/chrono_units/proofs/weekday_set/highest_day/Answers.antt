use Rattle.chrono_units.proofs.SetPlaces.{last_day-set_at}
use Rattle.chrono_units.proofs.weekday_set.highest_day.Goals as goal

pub returns : goal.returns
returns c =
    last_day-set_at c.args.digits c.requires c.in_ok-checked_sub.ensures.0 c.in_ok-checked_sub.field-0 c.in_ok-checked_sub.ensures.1 c.from_u32.result c.from_u32.ensures
