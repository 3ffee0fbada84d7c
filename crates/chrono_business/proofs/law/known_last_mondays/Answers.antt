use Rattle.std.proofs.Common.{refl}
use Rattle.chrono_datetime.specs.Days.{date_of_day, days_before_year, days_of_months_in, days_of_years}
use Rattle.chrono_datetime.specs.Weeks.{date_of_nth_weekday, days_with_weekday}
use Rattle.chrono_business.specs.PublicHolidays.{england_and_wales_rules, fedwire_rules, nyse_rules, us_federal_rules}
use Rattle.chrono_business.specs.HolidayRules.{date_of_rule, from_saturday, from_sunday, holiday_named}
use Rattle.chrono_business.proofs.law.known_last_mondays.Goals as goal

pub returns-clause-memorial_day : goal.returns-clause-memorial_day
unfolding us_federal_rules date_of_rule holiday_named from_saturday from_sunday date_of_nth_weekday days_with_weekday date_of_day days_before_year days_of_years days_of_months_in
returns-clause-memorial_day c = λ r. refl

pub returns-clause-spring_of_1978 : goal.returns-clause-spring_of_1978
unfolding england_and_wales_rules date_of_rule holiday_named from_saturday from_sunday date_of_nth_weekday days_with_weekday date_of_day days_before_year days_of_years days_of_months_in
returns-clause-spring_of_1978 c = λ r. refl

pub returns-clause-spring_of_2001 : goal.returns-clause-spring_of_2001
unfolding england_and_wales_rules date_of_rule holiday_named from_saturday from_sunday date_of_nth_weekday days_with_weekday date_of_day days_before_year days_of_years days_of_months_in
returns-clause-spring_of_2001 c = λ r. refl

pub returns-clause-spring_of_2003 : goal.returns-clause-spring_of_2003
unfolding england_and_wales_rules date_of_rule holiday_named from_saturday from_sunday date_of_nth_weekday days_with_weekday date_of_day days_before_year days_of_years days_of_months_in
returns-clause-spring_of_2003 c = λ r. refl

pub returns-clause-spring_of_2011 : goal.returns-clause-spring_of_2011
unfolding england_and_wales_rules date_of_rule holiday_named from_saturday from_sunday date_of_nth_weekday days_with_weekday date_of_day days_before_year days_of_years days_of_months_in
returns-clause-spring_of_2011 c = λ r. refl

pub returns-clause-spring_of_2013 : goal.returns-clause-spring_of_2013
unfolding england_and_wales_rules date_of_rule holiday_named from_saturday from_sunday date_of_nth_weekday days_with_weekday date_of_day days_before_year days_of_years days_of_months_in
returns-clause-spring_of_2013 c = λ r. refl

pub returns-clause-spring_of_2021 : goal.returns-clause-spring_of_2021
unfolding england_and_wales_rules date_of_rule holiday_named from_saturday from_sunday date_of_nth_weekday days_with_weekday date_of_day days_before_year days_of_years days_of_months_in
returns-clause-spring_of_2021 c = λ r. refl

pub returns-clause-spring_of_2023 : goal.returns-clause-spring_of_2023
unfolding england_and_wales_rules date_of_rule holiday_named from_saturday from_sunday date_of_nth_weekday days_with_weekday date_of_day days_before_year days_of_years days_of_months_in
returns-clause-spring_of_2023 c = λ r. refl

pub returns-clause-summer_of_1978 : goal.returns-clause-summer_of_1978
unfolding england_and_wales_rules date_of_rule holiday_named from_saturday from_sunday date_of_nth_weekday days_with_weekday date_of_day days_before_year days_of_years days_of_months_in
returns-clause-summer_of_1978 c = λ r. refl

pub returns-clause-memorial_day_of_fedwire : goal.returns-clause-memorial_day_of_fedwire
unfolding fedwire_rules date_of_rule holiday_named from_saturday from_sunday date_of_nth_weekday days_with_weekday date_of_day days_before_year days_of_years days_of_months_in
returns-clause-memorial_day_of_fedwire c = λ r. refl

pub returns-clause-memorial_day_of_nyse : goal.returns-clause-memorial_day_of_nyse
unfolding nyse_rules date_of_rule holiday_named from_saturday from_sunday date_of_nth_weekday days_with_weekday date_of_day days_before_year days_of_years days_of_months_in
returns-clause-memorial_day_of_nyse c = λ r. refl
