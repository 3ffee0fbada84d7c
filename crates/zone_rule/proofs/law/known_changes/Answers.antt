use Rattle.std.proofs.Common.{refl}
use Rattle.chrono_calendar.specs.Days.{days_before_year, days_of_months_in, days_of_years}
use Rattle.chrono_calendar.specs.Weeks.{days_with_weekday}
use Rattle.zone_rule.specs.Changes.{day_in_year}
use Rattle.zone_rule.proofs.law.known_changes.Goals as goal

pub returns-clause-new_york_begins : goal.returns-clause-new_york_begins
unfolding day_in_year days_with_weekday days_before_year days_of_years days_of_months_in
returns-clause-new_york_begins c = refl

pub returns-clause-new_york_ends : goal.returns-clause-new_york_ends
unfolding day_in_year days_with_weekday days_before_year days_of_years days_of_months_in
returns-clause-new_york_ends c = refl

pub returns-clause-dublin_begins : goal.returns-clause-dublin_begins
unfolding day_in_year days_with_weekday days_before_year days_of_years days_of_months_in
returns-clause-dublin_begins c = refl

pub returns-clause-dublin_ends : goal.returns-clause-dublin_ends
unfolding day_in_year days_with_weekday days_before_year days_of_years days_of_months_in
returns-clause-dublin_ends c = refl

pub returns-clause-sydney_begins : goal.returns-clause-sydney_begins
unfolding day_in_year days_with_weekday days_before_year days_of_years days_of_months_in
returns-clause-sydney_begins c = refl

pub returns-clause-sydney_ends : goal.returns-clause-sydney_ends
unfolding day_in_year days_with_weekday days_before_year days_of_years days_of_months_in
returns-clause-sydney_ends c = refl
