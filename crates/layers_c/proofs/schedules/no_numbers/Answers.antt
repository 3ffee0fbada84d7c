use Rattle.std.proofs.Common.{None, ap, ◌∙◌, refl}
use Rattle.numbers_c.specs.DateTimes.{moment_from_c}
use Rattle.numbers_c.proofs.DateTimeLemmas.{moment_from_c-none}
use Rattle.layers_c.proofs.schedules.no_numbers.Goals as goal

pub returns-clause-named : goal.returns-clause-named
returns-clause-named c = ap moment_from_c c.numbers_or_none.ensures ∙ moment_from_c-none None refl
