use Rattle.std.proofs.Common.{ap, ◌∙◌}
use Rattle.std.specs.Result.{result_ok}
use Rattle.numbers_c.specs.DateTimes.{moment_from_c, numbers_or_none}
use Rattle.calendar_c.proofs.AgainLemmas.{text-again}
use Rattle.calendar_c.proofs.texts.calendar_read_date_time.Goals as goal

pub returns-clause-every : goal.returns-clause-every
returns-clause-every c = λ m h. c.numbers_or_none.ensures ∙ ap numbers_or_none (c.ok.ensures.value ∙ ap result_ok (c.read_date_time.ensures.every m h))

pub returns-clause-named : goal.returns-clause-named
returns-clause-named c =
    λ m h. ap moment_from_c (c.numbers_or_none.ensures ∙ ap numbers_or_none (c.ok.ensures.value ∙ ap result_ok (c.read_date_time.ensures.every m h))) ∙ text-again c.args.text.now m h
