use Rattle.std.proofs.Common.{refl}
use Rattle.chrono_calendar.specs.Days.{days_of_years, days_before_year, days_of_months_in, ordinal_name_of, days_after_zero, days_before_zero, month_of_ordinal, day_of_ordinal}
use Rattle.chrono_calendar.specs.MonthMoves.{month_move}
use Rattle.chrono_calendar.specs.Recurrence.{date_on, first_of_days, first_where}
use Rattle.chrono_calendar.proofs.law.known_recurrences.Goals as goal

pub returns-clause-first : goal.returns-clause-first
unfolding month_move days_before_year days_of_years days_of_months_in ordinal_name_of days_after_zero days_before_zero month_of_ordinal day_of_ordinal
returns-clause-first c = refl

pub returns-clause-second : goal.returns-clause-second
unfolding month_move days_before_year days_of_years days_of_months_in ordinal_name_of days_after_zero days_before_zero month_of_ordinal day_of_ordinal
returns-clause-second c = refl

pub returns-clause-third : goal.returns-clause-third
unfolding month_move days_before_year days_of_years days_of_months_in ordinal_name_of days_after_zero days_before_zero month_of_ordinal day_of_ordinal
returns-clause-third c = refl

pub returns-clause-year_on : goal.returns-clause-year_on
unfolding month_move days_before_year days_of_years days_of_months_in ordinal_name_of days_after_zero days_before_zero month_of_ordinal day_of_ordinal
returns-clause-year_on c = refl

pub returns-clause-leap_day : goal.returns-clause-leap_day
unfolding month_move days_before_year days_of_years days_of_months_in ordinal_name_of days_after_zero days_before_zero month_of_ordinal day_of_ordinal
returns-clause-leap_day c = refl

pub returns-clause-monday : goal.returns-clause-monday
unfolding date_on first_where first_of_days
returns-clause-monday c = refl

pub returns-clause-itself : goal.returns-clause-itself
unfolding date_on first_where first_of_days
returns-clause-itself c = refl

pub returns-clause-no_tuesday : goal.returns-clause-no_tuesday
unfolding date_on first_where first_of_days
returns-clause-no_tuesday c = refl
