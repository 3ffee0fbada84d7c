use Rattle.std.proofs.Common.{refl}
use Rattle.chrono_datetime.specs.Days.{date_of_day, date_of_ymd, days_before_year, days_of_months_in, days_of_years}
use Rattle.chrono_datetime.specs.Weeks.{date_of_nth_weekday, days_with_weekday}
use Rattle.chrono_business.specs.Easter.{date_of_easter, days_to_moon, easter_day, epact}
use Rattle.chrono_business.specs.HolidayRules.{holiday_named, date_of_rule, from_saturday, from_sunday}
use Rattle.chrono_business.specs.PublicHolidays.{england_and_wales_rules, fedwire_rules, france_rules, germany_rules, japan_rules, nyse_rules, target_rules, us_federal_rules}
use Rattle.chrono_business.proofs.law.known_given_calendars.Goals as goal

pub returns-clause-target : goal.returns-clause-target
unfolding target_rules date_of_rule holiday_named from_saturday from_sunday date_of_easter easter_day epact days_to_moon date_of_nth_weekday days_with_weekday date_of_ymd date_of_day days_before_year days_of_years days_of_months_in
returns-clause-target c = refl

pub returns-clause-us_federal : goal.returns-clause-us_federal
unfolding us_federal_rules date_of_rule holiday_named from_saturday from_sunday date_of_easter easter_day epact days_to_moon date_of_nth_weekday days_with_weekday date_of_ymd date_of_day days_before_year days_of_years days_of_months_in
returns-clause-us_federal c = refl

pub returns-clause-us_federal_from_june : goal.returns-clause-us_federal_from_june
unfolding us_federal_rules date_of_rule holiday_named from_saturday from_sunday date_of_easter easter_day epact days_to_moon date_of_nth_weekday days_with_weekday date_of_ymd date_of_day days_before_year days_of_years days_of_months_in
returns-clause-us_federal_from_june c = refl

pub returns-clause-england_and_wales : goal.returns-clause-england_and_wales
unfolding england_and_wales_rules date_of_rule holiday_named from_saturday from_sunday date_of_easter easter_day epact days_to_moon date_of_nth_weekday days_with_weekday date_of_ymd date_of_day days_before_year days_of_years days_of_months_in
returns-clause-england_and_wales c = refl

pub returns-clause-england_and_wales_from_christmas : goal.returns-clause-england_and_wales_from_christmas
unfolding england_and_wales_rules date_of_rule holiday_named from_saturday from_sunday date_of_easter easter_day epact days_to_moon date_of_nth_weekday days_with_weekday date_of_ymd date_of_day days_before_year days_of_years days_of_months_in
returns-clause-england_and_wales_from_christmas c = refl

pub returns-clause-memorial_day : goal.returns-clause-memorial_day
unfolding us_federal_rules
returns-clause-memorial_day c = λ r. refl

pub returns-clause-fedwire : goal.returns-clause-fedwire
unfolding fedwire_rules date_of_rule holiday_named from_saturday from_sunday date_of_easter easter_day epact days_to_moon date_of_nth_weekday days_with_weekday date_of_ymd date_of_day days_before_year days_of_years days_of_months_in
returns-clause-fedwire c = refl

pub returns-clause-fedwire_from_june : goal.returns-clause-fedwire_from_june
unfolding fedwire_rules date_of_rule holiday_named from_saturday from_sunday date_of_easter easter_day epact days_to_moon date_of_nth_weekday days_with_weekday date_of_ymd date_of_day days_before_year days_of_years days_of_months_in
returns-clause-fedwire_from_june c = refl

pub returns-clause-nyse : goal.returns-clause-nyse
unfolding nyse_rules date_of_rule holiday_named from_saturday from_sunday date_of_easter easter_day epact days_to_moon date_of_nth_weekday days_with_weekday date_of_ymd date_of_day days_before_year days_of_years days_of_months_in
returns-clause-nyse c = refl

pub returns-clause-nyse_from_june : goal.returns-clause-nyse_from_june
unfolding nyse_rules date_of_rule holiday_named from_saturday from_sunday date_of_easter easter_day epact days_to_moon date_of_nth_weekday days_with_weekday date_of_ymd date_of_day days_before_year days_of_years days_of_months_in
returns-clause-nyse_from_june c = refl

pub returns-clause-germany : goal.returns-clause-germany
unfolding germany_rules date_of_rule holiday_named from_saturday from_sunday date_of_easter easter_day epact days_to_moon date_of_nth_weekday days_with_weekday date_of_ymd date_of_day days_before_year days_of_years days_of_months_in
returns-clause-germany c = refl

pub returns-clause-france : goal.returns-clause-france
unfolding france_rules date_of_rule holiday_named from_saturday from_sunday date_of_easter easter_day epact days_to_moon date_of_nth_weekday days_with_weekday date_of_ymd date_of_day days_before_year days_of_years days_of_months_in
returns-clause-france c = refl

pub returns-clause-japan : goal.returns-clause-japan
unfolding japan_rules date_of_rule holiday_named from_saturday from_sunday date_of_nth_weekday days_with_weekday date_of_ymd date_of_day days_before_year days_of_years days_of_months_in
returns-clause-japan c = refl
