use Rattle.std.proofs.Common.{refl}
use Rattle.chrono_calendar.specs.Recurrence.{date_on, first_of_days, first_where}
use Rattle.chrono_calendar.proofs.FirstWhere.{first_where-Some, first_where-found, first_where-None, first_where-nowhere}
use Rattle.chrono_calendar.proofs.law.first_where_is_least.Goals as goal

pub returns-clause-found : goal.returns-clause-found
returns-clause-found c = λ p n e h. (first_where-Some p n e h, λ first. first_where-found p n e h first.0 first.1)

pub returns-clause-none : goal.returns-clause-none
returns-clause-none c = λ p n h. (first_where-nowhere p n h, first_where-None p n h)

pub returns-clause-past_last : goal.returns-clause-past_last
unfolding first_where first_of_days
returns-clause-past_last c = λ p. refl

pub returns-clause-weekdays : goal.returns-clause-weekdays
unfolding date_on
returns-clause-weekdays c = λ n set. refl
