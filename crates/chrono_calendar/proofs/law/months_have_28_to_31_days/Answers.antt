use Rattle.chrono_units.specs.Years.{is_leap_year}
use Rattle.chrono_calendar.specs.Days.{month_of, year_of}
use Rattle.chrono_calendar.proofs.Months.{month_length_in-bounds}
use Rattle.chrono_calendar.proofs.law.months_have_28_to_31_days.Goals as goal

pub returns-clause-at_least : goal.returns-clause-at_least
returns-clause-at_least c = λ y m. (month_length_in-bounds (is_leap_year y) m).0

pub returns-clause-at_most : goal.returns-clause-at_most
returns-clause-at_most c = λ y m. (month_length_in-bounds (is_leap_year y) m).1

pub returns-clause-of_a_day : goal.returns-clause-of_a_day
returns-clause-of_a_day c = λ n. month_length_in-bounds (is_leap_year (year_of n)) (month_of n)
