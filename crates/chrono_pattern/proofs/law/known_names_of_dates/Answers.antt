use Rattle.std.proofs.Common.{refl}
use Rattle.chrono_pattern.specs.DateParts.{names_calendar, names_date, names_ordinal, names_week, names_year_week}
use Rattle.chrono_pattern.proofs.law.known_names_of_dates.Goals as goal

pub returns-clause-calendar : goal.returns-clause-calendar
unfolding names_calendar names_date names_ordinal names_week names_year_week
returns-clause-calendar c v = refl

pub returns-clause-in_century : goal.returns-clause-in_century
unfolding names_calendar names_date names_ordinal names_week names_year_week
returns-clause-in_century c v = refl

pub returns-clause-century_alone : goal.returns-clause-century_alone
unfolding names_calendar names_date names_ordinal names_week names_year_week
returns-clause-century_alone c v = refl

pub returns-clause-no_year : goal.returns-clause-no_year
unfolding names_calendar names_date names_ordinal names_week names_year_week
returns-clause-no_year c v = refl

pub returns-clause-no_month : goal.returns-clause-no_month
unfolding names_calendar names_date names_ordinal names_week names_year_week
returns-clause-no_month c v = refl

pub returns-clause-no_day : goal.returns-clause-no_day
unfolding names_calendar names_date names_ordinal names_week names_year_week
returns-clause-no_day c v = refl

pub returns-clause-ordinal : goal.returns-clause-ordinal
unfolding names_calendar names_date names_ordinal names_week names_year_week
returns-clause-ordinal c v = refl

pub returns-clause-ordinal_in_century : goal.returns-clause-ordinal_in_century
unfolding names_calendar names_date names_ordinal names_week names_year_week
returns-clause-ordinal_in_century c v = refl

pub returns-clause-ordinal_alone : goal.returns-clause-ordinal_alone
unfolding names_calendar names_date names_ordinal names_week names_year_week
returns-clause-ordinal_alone c v = refl

pub returns-clause-iso : goal.returns-clause-iso
unfolding names_calendar names_date names_ordinal names_week names_year_week
returns-clause-iso c v = refl

pub returns-clause-iso_in_century : goal.returns-clause-iso_in_century
unfolding names_calendar names_date names_ordinal names_week names_year_week
returns-clause-iso_in_century c v = refl

pub returns-clause-iso_of_year : goal.returns-clause-iso_of_year
unfolding names_calendar names_date names_ordinal names_week names_year_week
returns-clause-iso_of_year c v = refl

pub returns-clause-no_iso_week : goal.returns-clause-no_iso_week
unfolding names_calendar names_date names_ordinal names_week names_year_week
returns-clause-no_iso_week c v = refl

pub returns-clause-no_iso_weekday : goal.returns-clause-no_iso_weekday
unfolding names_calendar names_date names_ordinal names_week names_year_week
returns-clause-no_iso_weekday c v = refl

pub returns-clause-sunday_weeks : goal.returns-clause-sunday_weeks
unfolding names_calendar names_date names_ordinal names_week names_year_week
returns-clause-sunday_weeks c v = refl

pub returns-clause-monday_weeks : goal.returns-clause-monday_weeks
unfolding names_calendar names_date names_ordinal names_week names_year_week
returns-clause-monday_weeks c v = refl

pub returns-clause-no_weekday_from_sunday : goal.returns-clause-no_weekday_from_sunday
unfolding names_calendar names_date names_ordinal names_week names_year_week
returns-clause-no_weekday_from_sunday c v = refl

pub returns-clause-no_weekday_from_monday : goal.returns-clause-no_weekday_from_monday
unfolding names_calendar names_date names_ordinal names_week names_year_week
returns-clause-no_weekday_from_monday c v = refl

pub returns-clause-weeks_of_no_year : goal.returns-clause-weeks_of_no_year
unfolding names_calendar names_date names_ordinal names_week names_year_week
returns-clause-weeks_of_no_year c v = refl
