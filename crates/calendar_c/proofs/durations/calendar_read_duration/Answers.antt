use Rattle.std.proofs.Common.{ap, ◌∙◌}
use Rattle.std.specs.Result.{result_ok}
use Rattle.numbers_c.specs.DateTimes.{duration_or_none}
use Rattle.calendar_c.proofs.durations.calendar_read_duration.Goals as goal

pub returns-clause-every : goal.returns-clause-every
returns-clause-every c = λ x h. c.duration_or_none.ensures.numbers ∙ ap duration_or_none (c.ok.ensures.value ∙ ap result_ok (c.read_duration.ensures.every x h))

pub returns-clause-named : goal.returns-clause-named
returns-clause-named c = λ x h. c.duration_or_none.ensures.named ∙ c.ok.ensures.value ∙ ap result_ok (c.read_duration.ensures.every x h)
