use Rattle.timed_cron.proofs.Laws.{idle_minute}
use Rattle.timed_cron.proofs.law.other_minutes_are_not_due.Goals as goal

pub returns : goal.returns
returns c = idle_minute
