use Rattle.std.proofs.Common.{refl}
use Rattle.chrono_datetime.specs.Days.{days_before_year, days_of_months_in, days_of_years}
use Rattle.chrono_business.specs.Easter.{date_of_easter, days_to_moon, easter_day, epact}
use Rattle.chrono_business.proofs.law.known_easters.Goals as goal

pub returns-clause-in_2024 : goal.returns-clause-in_2024
unfolding easter_day epact days_to_moon days_before_year days_of_years days_of_months_in
returns-clause-in_2024 c = refl

pub returns-clause-earliest : goal.returns-clause-earliest
unfolding easter_day epact days_to_moon days_before_year days_of_years days_of_months_in
returns-clause-earliest c = refl

pub returns-clause-latest : goal.returns-clause-latest
unfolding easter_day epact days_to_moon days_before_year days_of_years days_of_months_in
returns-clause-latest c = refl

pub returns-clause-in_1954 : goal.returns-clause-in_1954
unfolding easter_day epact days_to_moon days_before_year days_of_years days_of_months_in
returns-clause-in_1954 c = refl

pub returns-clause-in_1981 : goal.returns-clause-in_1981
unfolding easter_day epact days_to_moon days_before_year days_of_years days_of_months_in
returns-clause-in_1981 c = refl

pub returns-clause-full_moon_on_sunday : goal.returns-clause-full_moon_on_sunday
unfolding easter_day epact days_to_moon days_before_year days_of_years days_of_months_in
returns-clause-full_moon_on_sunday c = refl

pub returns-clause-in_1761 : goal.returns-clause-in_1761
unfolding easter_day epact days_to_moon days_before_year days_of_years days_of_months_in
returns-clause-in_1761 c = refl

pub returns-clause-in_2160 : goal.returns-clause-in_2160
unfolding easter_day epact days_to_moon days_before_year days_of_years days_of_months_in
returns-clause-in_2160 c = refl

pub returns-clause-in_3902 : goal.returns-clause-in_3902
unfolding easter_day epact days_to_moon days_before_year days_of_years days_of_months_in
returns-clause-in_3902 c = refl

pub returns-clause-in_3165 : goal.returns-clause-in_3165
unfolding easter_day epact days_to_moon days_before_year days_of_years days_of_months_in
returns-clause-in_3165 c = refl

pub returns-clause-in_7515 : goal.returns-clause-in_7515
unfolding easter_day epact days_to_moon days_before_year days_of_years days_of_months_in
returns-clause-in_7515 c = refl

pub returns-clause-date : goal.returns-clause-date
unfolding date_of_easter easter_day epact days_to_moon days_before_year days_of_years days_of_months_in
returns-clause-date c = refl

pub returns-clause-no_year : goal.returns-clause-no_year
unfolding date_of_easter easter_day epact days_to_moon days_before_year days_of_years days_of_months_in
returns-clause-no_year c = refl
