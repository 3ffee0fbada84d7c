use Rattle.std.proofs.Common.{sym, ◌∙◌}
use Rattle.calendar_rules.proofs.ClockParts.{clock_part_length}
use Rattle.calendar_rules.proofs.text_of_days.part_of_days.Goals as goal

pub returns-then-is_clock_part-clause-short : goal.returns-then-is_clock_part-clause-short
returns-then-is_clock_part-clause-short c = clock_part_length c.args.part.now (sym c.is_clock_part.ensures ∙ c.if-is_clock_part.true)
