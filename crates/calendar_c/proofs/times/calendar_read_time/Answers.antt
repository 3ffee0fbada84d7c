use Rattle.std.proofs.Common.{ap, ◌∙◌}
use Rattle.std.specs.Result.{result_ok}
use Rattle.numbers_c.specs.DateTimes.{time_from_c, time_or_none}
use Rattle.calendar_c.proofs.AgainLemmas.{time_text-again}
use Rattle.calendar_c.proofs.times.calendar_read_time.Goals as goal

pub returns-clause-every : goal.returns-clause-every
returns-clause-every c = λ t h. c.time_or_none.ensures ∙ ap time_or_none (c.ok.ensures.value ∙ ap result_ok (c.read_time.ensures.every t h))

pub returns-clause-named : goal.returns-clause-named
returns-clause-named c =
    λ t h. ap time_from_c (c.time_or_none.ensures ∙ ap time_or_none (c.ok.ensures.value ∙ ap result_ok (c.read_time.ensures.every t h))) ∙ time_text-again c.args.text.now t h
