use Rattle.std.proofs.Common.{refl}
use Rattle.chrono_datetime.specs.Days.{date_of_day, date_of_ymd, days_before_year, days_of_months_in, days_of_years}
use Rattle.chrono_datetime.specs.Weeks.{date_of_nth_weekday, days_with_weekday}
use Rattle.chrono_business.specs.Easter.{date_of_easter, days_to_moon, easter_day, epact}
use Rattle.chrono_business.specs.HolidayRules.{holiday_named, date_of_rule, from_saturday, from_sunday}
use Rattle.chrono_business.specs.PublicHolidays.{england_and_wales_rules, fedwire_rules, france_rules, germany_rules, japan_rules, nyse_rules, target_rules, us_federal_rules}
use Rattle.chrono_business.proofs.law.known_first_and_last_years.Goals as goal

pub returns-clause-target_first : goal.returns-clause-target_first
unfolding target_rules date_of_rule holiday_named from_saturday from_sunday date_of_easter easter_day epact days_to_moon date_of_nth_weekday days_with_weekday date_of_ymd date_of_day days_before_year days_of_years days_of_months_in
returns-clause-target_first c = refl

pub returns-clause-us_federal_first : goal.returns-clause-us_federal_first
unfolding us_federal_rules date_of_rule holiday_named from_saturday from_sunday date_of_easter easter_day epact days_to_moon date_of_nth_weekday days_with_weekday date_of_ymd date_of_day days_before_year days_of_years days_of_months_in
returns-clause-us_federal_first c = refl

pub returns-clause-us_federal_first_from_june : goal.returns-clause-us_federal_first_from_june
unfolding us_federal_rules date_of_rule holiday_named from_saturday from_sunday date_of_easter easter_day epact days_to_moon date_of_nth_weekday days_with_weekday date_of_ymd date_of_day days_before_year days_of_years days_of_months_in
returns-clause-us_federal_first_from_june c = refl

pub returns-clause-us_federal_last : goal.returns-clause-us_federal_last
unfolding us_federal_rules date_of_rule holiday_named from_saturday from_sunday date_of_easter easter_day epact days_to_moon date_of_nth_weekday days_with_weekday date_of_ymd date_of_day days_before_year days_of_years days_of_months_in
returns-clause-us_federal_last c = refl

pub returns-clause-england_and_wales_first : goal.returns-clause-england_and_wales_first
unfolding england_and_wales_rules date_of_rule holiday_named from_saturday from_sunday date_of_easter easter_day epact days_to_moon date_of_nth_weekday days_with_weekday date_of_ymd date_of_day days_before_year days_of_years days_of_months_in
returns-clause-england_and_wales_first c = refl

pub returns-clause-england_and_wales_may_last : goal.returns-clause-england_and_wales_may_last
unfolding england_and_wales_rules date_of_rule holiday_named from_saturday from_sunday date_of_easter easter_day epact days_to_moon date_of_nth_weekday days_with_weekday date_of_ymd date_of_day days_before_year days_of_years days_of_months_in
returns-clause-england_and_wales_may_last c = refl

pub returns-clause-england_and_wales_2002 : goal.returns-clause-england_and_wales_2002
unfolding england_and_wales_rules date_of_rule holiday_named from_saturday from_sunday date_of_easter easter_day epact days_to_moon date_of_nth_weekday days_with_weekday date_of_ymd date_of_day days_before_year days_of_years days_of_months_in
returns-clause-england_and_wales_2002 c = refl

pub returns-clause-england_and_wales_2012 : goal.returns-clause-england_and_wales_2012
unfolding england_and_wales_rules date_of_rule holiday_named from_saturday from_sunday date_of_easter easter_day epact days_to_moon date_of_nth_weekday days_with_weekday date_of_ymd date_of_day days_before_year days_of_years days_of_months_in
returns-clause-england_and_wales_2012 c = refl

pub returns-clause-england_and_wales_2022 : goal.returns-clause-england_and_wales_2022
unfolding england_and_wales_rules date_of_rule holiday_named from_saturday from_sunday date_of_easter easter_day epact days_to_moon date_of_nth_weekday days_with_weekday date_of_ymd date_of_day days_before_year days_of_years days_of_months_in
returns-clause-england_and_wales_2022 c = refl

pub returns-clause-england_and_wales_first_from_christmas : goal.returns-clause-england_and_wales_first_from_christmas
unfolding england_and_wales_rules date_of_rule holiday_named from_saturday from_sunday date_of_easter easter_day epact days_to_moon date_of_nth_weekday days_with_weekday date_of_ymd date_of_day days_before_year days_of_years days_of_months_in
returns-clause-england_and_wales_first_from_christmas c = refl

pub returns-clause-england_and_wales_last : goal.returns-clause-england_and_wales_last
unfolding england_and_wales_rules date_of_rule holiday_named from_saturday from_sunday date_of_easter easter_day epact days_to_moon date_of_nth_weekday days_with_weekday date_of_ymd date_of_day days_before_year days_of_years days_of_months_in
returns-clause-england_and_wales_last c = refl

pub returns-clause-fedwire_first : goal.returns-clause-fedwire_first
unfolding fedwire_rules date_of_rule holiday_named from_saturday from_sunday date_of_easter easter_day epact days_to_moon date_of_nth_weekday days_with_weekday date_of_ymd date_of_day days_before_year days_of_years days_of_months_in
returns-clause-fedwire_first c = refl

pub returns-clause-fedwire_first_from_june : goal.returns-clause-fedwire_first_from_june
unfolding fedwire_rules date_of_rule holiday_named from_saturday from_sunday date_of_easter easter_day epact days_to_moon date_of_nth_weekday days_with_weekday date_of_ymd date_of_day days_before_year days_of_years days_of_months_in
returns-clause-fedwire_first_from_june c = refl

pub returns-clause-fedwire_last : goal.returns-clause-fedwire_last
unfolding fedwire_rules date_of_rule holiday_named from_saturday from_sunday date_of_easter easter_day epact days_to_moon date_of_nth_weekday days_with_weekday date_of_ymd date_of_day days_before_year days_of_years days_of_months_in
returns-clause-fedwire_last c = refl

pub returns-clause-nyse_first : goal.returns-clause-nyse_first
unfolding nyse_rules date_of_rule holiday_named from_saturday from_sunday date_of_easter easter_day epact days_to_moon date_of_nth_weekday days_with_weekday date_of_ymd date_of_day days_before_year days_of_years days_of_months_in
returns-clause-nyse_first c = refl

pub returns-clause-nyse_first_from_june : goal.returns-clause-nyse_first_from_june
unfolding nyse_rules date_of_rule holiday_named from_saturday from_sunday date_of_easter easter_day epact days_to_moon date_of_nth_weekday days_with_weekday date_of_ymd date_of_day days_before_year days_of_years days_of_months_in
returns-clause-nyse_first_from_june c = refl

pub returns-clause-nyse_last : goal.returns-clause-nyse_last
unfolding nyse_rules date_of_rule holiday_named from_saturday from_sunday date_of_easter easter_day epact days_to_moon date_of_nth_weekday days_with_weekday date_of_ymd date_of_day days_before_year days_of_years days_of_months_in
returns-clause-nyse_last c = refl

pub returns-clause-germany_first : goal.returns-clause-germany_first
unfolding germany_rules date_of_rule holiday_named from_saturday from_sunday date_of_easter easter_day epact days_to_moon date_of_nth_weekday days_with_weekday date_of_ymd date_of_day days_before_year days_of_years days_of_months_in
returns-clause-germany_first c = refl

pub returns-clause-germany_last : goal.returns-clause-germany_last
unfolding germany_rules date_of_rule holiday_named from_saturday from_sunday date_of_easter easter_day epact days_to_moon date_of_nth_weekday days_with_weekday date_of_ymd date_of_day days_before_year days_of_years days_of_months_in
returns-clause-germany_last c = refl

pub returns-clause-france_first : goal.returns-clause-france_first
unfolding france_rules date_of_rule holiday_named from_saturday from_sunday date_of_easter easter_day epact days_to_moon date_of_nth_weekday days_with_weekday date_of_ymd date_of_day days_before_year days_of_years days_of_months_in
returns-clause-france_first c = refl

pub returns-clause-japan_first : goal.returns-clause-japan_first
unfolding japan_rules date_of_rule holiday_named from_saturday from_sunday date_of_nth_weekday days_with_weekday date_of_ymd date_of_day days_before_year days_of_years days_of_months_in
returns-clause-japan_first c = refl

pub returns-clause-japan_last : goal.returns-clause-japan_last
unfolding japan_rules date_of_rule holiday_named from_saturday from_sunday date_of_nth_weekday days_with_weekday date_of_ymd date_of_day days_before_year days_of_years days_of_months_in
returns-clause-japan_last c = refl
