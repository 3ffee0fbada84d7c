use Rattle.std.proofs.Common.{◌∙◌}
use Rattle.calendar_c.proofs.date_times.calendar_date_time_since.Goals as goal

pub returns-clause-named : goal.returns-clause-named
returns-clause-named c = c.duration_or_none.ensures.named ∙ c.distance.ensures
