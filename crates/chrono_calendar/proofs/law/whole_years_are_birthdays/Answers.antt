use Rattle.chrono_calendar.proofs.Birthdays.{years_between-come, years_between-before, birthday-start, birthday-same, birthday-leap_day}
use Rattle.chrono_calendar.proofs.law.whole_years_are_birthdays.Goals as goal

pub returns-clause-come : goal.returns-clause-come
returns-clause-come c = years_between-come

pub returns-clause-before : goal.returns-clause-before
returns-clause-before c = years_between-before

pub returns-clause-start : goal.returns-clause-start
returns-clause-start c = birthday-start

pub returns-clause-moved : goal.returns-clause-moved
returns-clause-moved c = λ base k e h leap. birthday-same base e k h leap

pub returns-clause-first_of_march : goal.returns-clause-first_of_march
returns-clause-first_of_march c = λ base k e h leap common. birthday-leap_day base e k h leap common
