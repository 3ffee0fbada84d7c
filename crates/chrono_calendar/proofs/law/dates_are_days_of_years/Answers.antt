use Rattle.chrono_calendar.proofs.NamedDates.{IsDate-year}
use Rattle.chrono_calendar.proofs.MonthMoveLaws.{year_of-range}
use Rattle.chrono_calendar.proofs.law.dates_are_days_of_years.Goals as goal

pub returns : goal.returns
returns c n = (year_of-range n, IsDate-year n)
