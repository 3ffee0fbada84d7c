use Rattle.std.proofs.Common.{refl}
use Rattle.chrono_calendar.specs.Days.{day_number_of_yo}
use Rattle.chrono_calendar.proofs.Names.{year_of-number, ordinal_of-number}
use Rattle.chrono_calendar.proofs.NamedDates.{calendar_name-number}
use Rattle.chrono_calendar.proofs.law.names_have_days.Goals as goal

pub returns-clause-year : goal.returns-clause-year
returns-clause-year c = λ y m d h. (calendar_name-number y m d h).0

pub returns-clause-month : goal.returns-clause-month
returns-clause-month c = λ y m d h. (calendar_name-number y m d h).1

pub returns-clause-day : goal.returns-clause-day
returns-clause-day c = λ y m d h. (calendar_name-number y m d h).2

pub returns-clause-year_of_ordinal : goal.returns-clause-year_of_ordinal
returns-clause-year_of_ordinal c = λ y o h. year_of-number (day_number_of_yo y o) y o refl h

pub returns-clause-ordinal : goal.returns-clause-ordinal
returns-clause-ordinal c = λ y o h. ordinal_of-number (day_number_of_yo y o) y o refl h
