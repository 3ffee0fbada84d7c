use Rattle.std.proofs.Common.{◌∙◌}
use Rattle.calendar_c.proofs.durations.calendar_duration_add.Goals as goal

pub returns-clause-named : goal.returns-clause-named
returns-clause-named c = c.duration_or_none.ensures.named ∙ c.sum.ensures
