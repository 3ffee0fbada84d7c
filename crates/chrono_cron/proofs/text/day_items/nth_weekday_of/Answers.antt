use Rattle.std.proofs.Common.{sym}
use Rattle.chrono_cron.proofs.DayItems.{no_sharp}
use Rattle.chrono_cron.proofs.text.day_items.nth_weekday_of.Goals as goal

pub returns-in_default-clause-number : goal.returns-in_default-clause-number
returns-in_default-clause-number c = sym (no_sharp c.args.text.now c.in_default.ensures.none)
