use Rattle.chrono_text.proofs.AnswerLemmas.{same_Ok}
use Rattle.chrono_reading.proofs.DateLemmas.{date_text-only}
use Rattle.chrono_reading.proofs.law.dates_have_one_text.Goals as goal

pub returns-in-Ok : goal.returns-in-Ok
returns-in-Ok c = λ n is.
    date_text-only _ n c.in-Ok.date (same_Ok _ _ (c.in-Ok.ensures.every n is)) (rw c.num_days_from_ce-number.ensures.value at c.num_days_from_ce-number.ensures.in_range) c.dates_have_one_calendar_name.ensures is

pub returns-in_default : goal.returns-in_default
returns-in_default c = λ n is. absurd (c.in_default.not-Ok n (c.read_date.ensures.every n is))
