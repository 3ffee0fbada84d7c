use Rattle.std.proofs.Common.{refl, arith, pos, ◌+ℤ◌, ◌-ℤ◌}
use Rattle.chrono_calendar.specs.MonthMoves.{month_first_of, month_last_of}
use Rattle.chrono_calendar.proofs.MonthDays.{month-previous, in_month-IsDate, month-days, later_in_month, earlier_in_month, month_first_of-is, month_last_of-is, month-next}
use Rattle.chrono_calendar.proofs.law.months_are_days_in_a_row.Goals as goal

pub returns-clause-days : goal.returns-clause-days
returns-clause-days c = month-days

pub returns-clause-later : goal.returns-clause-later
returns-clause-later c = λ n k h. (later_in_month n (n +ℤ pos k) k refl h).day

pub returns-clause-earlier : goal.returns-clause-earlier
returns-clause-earlier c = λ n k h. omega (arith, h, (earlier_in_month n (n -ℤ pos k) k refl h).day)

pub returns-clause-first : goal.returns-clause-first
returns-clause-first c = λ n. (month_first_of-is n).day

pub returns-clause-last : goal.returns-clause-last
returns-clause-last c = λ n. (month_last_of-is n).day

pub returns-clause-next_month : goal.returns-clause-next_month
returns-clause-next_month c = λ n. (month-next n (month_last_of n +ℤ pos 1) refl).0

pub returns-clause-next_first : goal.returns-clause-next_first
returns-clause-next_first c = λ n. (month-next n (month_last_of n +ℤ pos 1) refl).1

pub returns-clause-dates : goal.returns-clause-dates
returns-clause-dates c = in_month-IsDate

pub returns-clause-month_before : goal.returns-clause-month_before
returns-clause-month_before c = λ n. (month-previous n (month_first_of n -ℤ pos 1) refl).0
