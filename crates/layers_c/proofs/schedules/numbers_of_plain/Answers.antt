use Rattle.std.proofs.Common.{Some, ap, ◌∙◌}
use Rattle.numbers_c.specs.DateTimes.{moment_from_c}
use Rattle.layers_c.proofs.MomentLemmas.{plain-again}
use Rattle.layers_c.proofs.schedules.numbers_of_plain.Goals as goal

pub returns-clause-named : goal.returns-clause-named
returns-clause-named c = ap moment_from_c c.numbers_or_none.ensures ∙ plain-again (Some c.args.moment) c.date_times_exist.ensures c.requires
