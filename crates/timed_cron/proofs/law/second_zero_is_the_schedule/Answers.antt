use Rattle.timed_cron.proofs.Laws.{zero_alone}
use Rattle.timed_cron.proofs.law.second_zero_is_the_schedule.Goals as goal

pub returns : goal.returns
returns c = zero_alone
