use Rattle.std.proofs.Common.{refl}
use Rattle.chrono_datetime.specs.Days.{date_of_ymd, days_before_year, days_of_months_in, days_of_years}
use Rattle.chrono_business.specs.HolidayRules.{holiday_named}
use Rattle.chrono_business.proofs.law.known_equinoxes.Goals as goal

pub returns-clause-march_first : goal.returns-clause-march_first
unfolding holiday_named date_of_ymd days_before_year days_of_years days_of_months_in
returns-clause-march_first c = refl

pub returns-clause-march_2026 : goal.returns-clause-march_2026
unfolding holiday_named date_of_ymd days_before_year days_of_years days_of_months_in
returns-clause-march_2026 c = refl

pub returns-clause-march_2055 : goal.returns-clause-march_2055
unfolding holiday_named date_of_ymd days_before_year days_of_years days_of_months_in
returns-clause-march_2055 c = refl

pub returns-clause-march_2088 : goal.returns-clause-march_2088
unfolding holiday_named date_of_ymd days_before_year days_of_years days_of_months_in
returns-clause-march_2088 c = refl

pub returns-clause-march_2092 : goal.returns-clause-march_2092
unfolding holiday_named date_of_ymd days_before_year days_of_years days_of_months_in
returns-clause-march_2092 c = refl

pub returns-clause-march_last : goal.returns-clause-march_last
unfolding holiday_named date_of_ymd days_before_year days_of_years days_of_months_in
returns-clause-march_last c = refl

pub returns-clause-september_first : goal.returns-clause-september_first
unfolding holiday_named date_of_ymd days_before_year days_of_years days_of_months_in
returns-clause-september_first c = refl

pub returns-clause-september_2012 : goal.returns-clause-september_2012
unfolding holiday_named date_of_ymd days_before_year days_of_years days_of_months_in
returns-clause-september_2012 c = refl

pub returns-clause-september_2045 : goal.returns-clause-september_2045
unfolding holiday_named date_of_ymd days_before_year days_of_years days_of_months_in
returns-clause-september_2045 c = refl

pub returns-clause-september_2074 : goal.returns-clause-september_2074
unfolding holiday_named date_of_ymd days_before_year days_of_years days_of_months_in
returns-clause-september_2074 c = refl

pub returns-clause-september_last : goal.returns-clause-september_last
unfolding holiday_named date_of_ymd days_before_year days_of_years days_of_months_in
returns-clause-september_last c = refl

pub returns-clause-march_before : goal.returns-clause-march_before
unfolding holiday_named date_of_ymd days_before_year days_of_years days_of_months_in
returns-clause-march_before c = refl

pub returns-clause-march_behind : goal.returns-clause-march_behind
unfolding holiday_named date_of_ymd days_before_year days_of_years days_of_months_in
returns-clause-march_behind c = refl

pub returns-clause-september_before : goal.returns-clause-september_before
unfolding holiday_named date_of_ymd days_before_year days_of_years days_of_months_in
returns-clause-september_before c = refl

pub returns-clause-september_behind : goal.returns-clause-september_behind
unfolding holiday_named date_of_ymd days_before_year days_of_years days_of_months_in
returns-clause-september_behind c = refl
