use Rattle.std.proofs.Common.{sym}
use Rattle.std.specs.Str.{byte}
use Rattle.chrono_cron.specs.FieldTexts.{before_byte, behind_byte}
use Rattle.timed_cron.specs.DialectFields.{field_number}
use Rattle.timed_cron.specs.QuartzTexts.{quartz_nth_weekday, weekdays_form}
use Rattle.chrono_text.proofs.PieceLemmas.{nothing_behind}
use Rattle.timed_cron.proofs.QuartzWords.{none_for}
use Rattle.timed_cron.proofs.quartz_days.nth_weekday.Goals as goal

pub returns-in_default-clause-number : goal.returns-in_default-clause-number
unfolding quartz_nth_weekday
returns-in_default-clause-number c =
    let text = c.args.text.now in
    sym (none_for (field_number weekdays_form (before_byte (byte "#") text)) (behind_byte (byte "#") text) (nothing_behind (byte "#") text c.in_default.ensures.none))
