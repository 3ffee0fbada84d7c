use Rattle.std.proofs.Common.{ap, ◌∙◌}
use Rattle.chrono_text.proofs.AnswerLemmas.{same_Ok}
use Rattle.chrono_datetime.specs.Moment.{Moment}
use Rattle.chrono_reading.proofs.DateTimeLemmas.{IsDateTimeText-same}
use Rattle.chrono_reading.proofs.law.texts_of_a_date_time_differ_in_separator_and_last_zeros.Goals as goal

pub returns-in-Ok : goal.returns-in-Ok
returns-in-Ok c = λ other m is also.
    let date = c.date.ensures ∙ ap (λ (a : Moment). a.date) (same_Ok _ _ (c.in-Ok.ensures.every m is)) in
    IsDateTimeText-same _ other m c.date.result date (rw c.num_days_from_ce-number.ensures.value at c.num_days_from_ce-number.ensures.in_range) c.dates_have_one_calendar_name.ensures is also

pub returns-in_default : goal.returns-in_default
returns-in_default c = λ other m is also. absurd (c.in_default.not-Ok m (c.read_date_time.ensures.every m is))
