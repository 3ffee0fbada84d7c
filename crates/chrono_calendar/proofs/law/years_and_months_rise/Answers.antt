use Rattle.chrono_calendar.proofs.Rising.{year_of-rises, month_index_of-rises, iso_year_of-rises}
use Rattle.chrono_calendar.proofs.law.years_and_months_rise.Goals as goal

pub returns-clause-year : goal.returns-clause-year
returns-clause-year c = year_of-rises

pub returns-clause-month : goal.returns-clause-month
returns-clause-month c = month_index_of-rises

pub returns-clause-iso_year : goal.returns-clause-iso_year
returns-clause-iso_year c = iso_year_of-rises
