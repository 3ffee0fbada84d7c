use Rattle.std.proofs.Common.{ap, ◌∙◌, refl}
use Rattle.numbers_c.specs.DateTimes.{duration_from_c, moment_from_c, numbers_or_none}
use Rattle.calendar_c.proofs.AgainLemmas.{moved-again}
use Rattle.calendar_c.proofs.date_times.calendar_date_time_add.Goals as goal

pub returns-clause-named : goal.returns-clause-named
returns-clause-named c =
    ap moment_from_c (c.numbers_or_none.ensures ∙ ap numbers_or_none c.moved.ensures)
    ∙ moved-again c.args.moment (moment_from_c c.args.moment) (duration_from_c c.args.by) refl
