use Rattle.std.proofs.Common.{◌≡◌, ap, sym, Some, refl, pos}
use Rattle.chrono_calendar.specs.Days.{days_of_years, days_before_year, days_of_months_in, date_of_day, date_of_ymd, date_of_yo, year_of, month_of, day_of, ordinal_of}
use Rattle.chrono_calendar.proofs.NamedDates.{date_of_ymd-name, date_of_yo-name}
use Rattle.chrono_calendar.proofs.KnownValues.{first_number, last_number}
use Rattle.chrono_calendar.proofs.law.known_days.Goals as goal

-- 30 December 2024, by its calendar name and by its ordinal name
calendar_name : (pos 2024 ≡ year_of (pos 739_250)) × (12 ≡ month_of (pos 739_250)) × (30 ≡ day_of (pos 739_250))
unfolding date_of_ymd days_before_year days_of_years days_of_months_in
calendar_name = date_of_ymd-name (pos 739_250) (pos 2024) 12 30 refl

ordinal_name : (pos 2024 ≡ year_of (pos 739_250)) × (365 ≡ ordinal_of (pos 739_250))
unfolding date_of_yo days_before_year days_of_years
ordinal_name = date_of_yo-name (pos 739_250) (pos 2024) 365 refl

pub returns-clause-epoch : goal.returns-clause-epoch
unfolding date_of_ymd days_before_year days_of_years days_of_months_in
returns-clause-epoch c = refl

pub returns-clause-first : goal.returns-clause-first
unfolding date_of_ymd days_of_months_in
returns-clause-first c = ap Some first_number

pub returns-clause-last : goal.returns-clause-last
unfolding date_of_yo
returns-clause-last c = ap Some last_number

pub returns-clause-past_last : goal.returns-clause-past_last
unfolding date_of_day
returns-clause-past_last c = refl

pub returns-clause-year : goal.returns-clause-year
returns-clause-year c = sym calendar_name.0

pub returns-clause-month : goal.returns-clause-month
returns-clause-month c = sym calendar_name.1

pub returns-clause-day : goal.returns-clause-day
returns-clause-day c = sym calendar_name.2

pub returns-clause-ordinal : goal.returns-clause-ordinal
returns-clause-ordinal c = sym ordinal_name.1
