use Rattle.std.proofs.Common.{append_assoc, refl}
use Rattle.chrono_cron.specs.WrittenTexts.{schedule_text}
use Rattle.chrono_cron.proofs.schedule.Schedule.put_into.Goals as goal

pub returns-clause-text : goal.returns-clause-text
unfolding schedule_text
returns-clause-text g c =
    rw (c.put_weekdays.ensures.text, c.push-4.ensures, c.put_plain-3.ensures.text, c.push-3.ensures, c.put_days.ensures.text, c.push-2.ensures, c.put_plain-2.ensures.text, c.push.ensures, c.put_plain.ensures.text, c.is_starred_by_minute.ensures, c.is_starred_by_hour.ensures, c.lists_all.ensures) (simp append_assoc refl)
