use Rattle.chrono_cron.proofs.TimesReadBack.{hours_back, minutes_back, months_back}
use Rattle.chrono_cron.proofs.law.written_fields_are_read.Goals as goal

pub returns-clause-minutes : goal.returns-clause-minutes
returns-clause-minutes c = λ starred first lie some. minutes_back starred c.args.set first lie some

pub returns-clause-hours : goal.returns-clause-hours
returns-clause-hours c = λ starred first lie some. hours_back starred c.args.set first lie some

pub returns-clause-months : goal.returns-clause-months
returns-clause-months c = λ starred first lie some. months_back starred c.args.set first lie some
