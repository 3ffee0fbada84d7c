use Rattle.std.proofs.Common.{ap, ◌∙◌, w32}
use Rattle.std.proofs.lemmas.Int.{to_z-of_z}
use Rattle.numbers_c.specs.DateTimes.{moment_from_c}
use Rattle.numbers_c.proofs.DateTimeLemmas.{moment_from_c-again}
use Rattle.calendar_c.proofs.date_times.calendar_date_time_new.Goals as goal

pub returns-clause-named : goal.returns-clause-named
returns-clause-named c =
    ap moment_from_c c.numbers_or_none.ensures
    ∙ moment_from_c-again c.date_time_at.result c.args.date c.args.second_of_day c.args.nanos (rw (to_z-of_z w32 c.args.date c.ranges.date) at c.date_time_at.ensures)
