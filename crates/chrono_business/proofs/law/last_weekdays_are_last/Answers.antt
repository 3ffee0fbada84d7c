use Rattle.chrono_business.proofs.LastWeekdays.{last_weekday-last, last_weekday-month, last_weekday-weekday}
use Rattle.chrono_business.proofs.law.last_weekdays_are_last.Goals as goal

pub returns-clause-month : goal.returns-clause-month
returns-clause-month c = last_weekday-month

pub returns-clause-weekday : goal.returns-clause-weekday
returns-clause-weekday c = last_weekday-weekday

pub returns-clause-last : goal.returns-clause-last
returns-clause-last c = last_weekday-last
