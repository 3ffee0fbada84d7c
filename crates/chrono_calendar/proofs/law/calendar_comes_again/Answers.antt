use Rattle.std.proofs.Common.{refl, pos, ◌+ℤ◌}
use Rattle.chrono_calendar.proofs.Cycles.{ordinal_name-again, calendar_name-again, iso_name-again}
use Rattle.chrono_calendar.proofs.WeekDays.{weekday_of-weeks}
use Rattle.chrono_calendar.proofs.law.calendar_comes_again.Goals as goal

pub returns-clause-year : goal.returns-clause-year
returns-clause-year c = λ n. (ordinal_name-again n (n +ℤ pos 146_097) refl).0

pub returns-clause-month : goal.returns-clause-month
returns-clause-month c = λ n. (calendar_name-again n (n +ℤ pos 146_097) refl).0

pub returns-clause-day : goal.returns-clause-day
returns-clause-day c = λ n. (calendar_name-again n (n +ℤ pos 146_097) refl).1

pub returns-clause-ordinal : goal.returns-clause-ordinal
returns-clause-ordinal c = λ n. (ordinal_name-again n (n +ℤ pos 146_097) refl).1

pub returns-clause-weekday : goal.returns-clause-weekday
returns-clause-weekday c = λ n. weekday_of-weeks n (n +ℤ pos 146_097) 20_871 refl

pub returns-clause-iso_year : goal.returns-clause-iso_year
returns-clause-iso_year c = λ n. (iso_name-again n (n +ℤ pos 146_097) refl).0

pub returns-clause-iso_week : goal.returns-clause-iso_week
returns-clause-iso_week c = λ n. (iso_name-again n (n +ℤ pos 146_097) refl).1
