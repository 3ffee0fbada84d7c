use Rattle.std.proofs.Common.{refl}
use Rattle.chrono_calendar.specs.Days.{date_of_ymd, days_before_year, days_of_months_in, days_of_years}
use Rattle.chrono_columns.specs.Columns.{date_entry}
use Rattle.chrono_columns.proofs.law.known_entries.Goals as goal

pub returns-clause-leap_day : goal.returns-clause-leap_day
unfolding date_entry date_of_ymd days_before_year days_of_years days_of_months_in
returns-clause-leap_day c = refl
