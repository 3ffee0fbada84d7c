use Rattle.std.proofs.Common.{arith}
use Rattle.chrono_calendar.specs.Weeks.{thursday_of_week}
use Rattle.chrono_calendar.proofs.Names.{ordinal_name_of-number, year_length_bounds}
use Rattle.chrono_calendar.proofs.NamedDates.{calendar_name-exists, number-calendar_name, number-ordinal_name}
use Rattle.chrono_calendar.specs.Days.{year_of}
use Rattle.chrono_calendar.proofs.law.days_have_names.Goals as goal

pub returns-clause-month : goal.returns-clause-month
returns-clause-month c = λ n. (calendar_name-exists n).0

pub returns-clause-day : goal.returns-clause-day
returns-clause-day c = λ n. (calendar_name-exists n).1

pub returns-clause-ordinal : goal.returns-clause-ordinal
returns-clause-ordinal c = λ n. (ordinal_name_of-number n).exists

pub returns-clause-week : goal.returns-clause-week
returns-clause-week c = λ n.
    let thursday = thursday_of_week n in
    let named = ordinal_name_of-number thursday in
    (omega arith, omega (arith, named.exists, year_length_bounds (year_of thursday)))

pub returns-clause-by_calendar : goal.returns-clause-by_calendar
returns-clause-by_calendar c = number-calendar_name

pub returns-clause-by_ordinal : goal.returns-clause-by_ordinal
returns-clause-by_ordinal c = number-ordinal_name
