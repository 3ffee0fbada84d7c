use Rattle.std.proofs.Common.{sym, ◌∙◌}
use Rattle.chrono_text.proofs.AnswerLemmas.{same_Ok}
use Rattle.chrono_reading.proofs.law.texts_have_one_date.Goals as goal

pub returns : goal.returns
returns c = λ n m first second.
    same_Ok n m (sym (c.read_date-date.ensures.every n first) ∙ c.read_date-date.ensures.every m second)
