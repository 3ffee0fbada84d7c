use Rattle.std.proofs.Common.{◌∙◌, w32}
use Rattle.std.proofs.lemmas.Int.{to_z-of_z}
use Rattle.calendar_c.proofs.durations.calendar_duration_multiply.Goals as goal

pub returns-clause-named : goal.returns-clause-named
returns-clause-named c = c.duration_or_none.ensures.named ∙ (rw (to_z-of_z w32 c.args.times c.ranges.times) at c.multiple.ensures)
