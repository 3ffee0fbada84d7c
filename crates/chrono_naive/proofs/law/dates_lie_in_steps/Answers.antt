use Rattle.chrono_naive.proofs.DateListLemmas.{length-days_from, length-weeks_from, days_from-at, weeks_from-at, weeks_from-past}
use Rattle.chrono_naive.proofs.law.dates_lie_in_steps.Goals as goal

pub returns-clause-day : goal.returns-clause-day
returns-clause-day c = days_from-at

pub returns-clause-days : goal.returns-clause-days
returns-clause-days c = length-days_from

pub returns-clause-week : goal.returns-clause-week
returns-clause-week c = weeks_from-at

pub returns-clause-no_week : goal.returns-clause-no_week
returns-clause-no_week c = weeks_from-past

pub returns-clause-weeks : goal.returns-clause-weeks
returns-clause-weeks c = length-weeks_from
