use Rattle.std.proofs.Common.{sym, ◌∙◌}
use Rattle.chrono_text.proofs.AnswerLemmas.{same_Ok}
use Rattle.chrono_reading.proofs.law.texts_have_one_month.Goals as goal

pub returns : goal.returns
returns c = λ a b first second.
    same_Ok a b (sym (c.read_month-month.ensures.every a first) ∙ c.read_month-month.ensures.every b second)
