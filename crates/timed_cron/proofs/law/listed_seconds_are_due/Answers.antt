use Rattle.timed_cron.proofs.Laws.{listed_alone}
use Rattle.timed_cron.proofs.law.listed_seconds_are_due.Goals as goal

pub returns : goal.returns
returns c = listed_alone
