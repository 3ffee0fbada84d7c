use Rattle.std.proofs.Common.{refl}
use Rattle.chrono_datetime.specs.Days.{date_of_day, date_of_ymd, days_before_year, days_of_months_in, days_of_years}
use Rattle.chrono_datetime.specs.Weeks.{date_of_nth_weekday, days_with_weekday}
use Rattle.chrono_business.specs.HolidayRules.{holiday_named, date_of_rule, from_saturday, from_sunday}
use Rattle.chrono_business.specs.PublicHolidays.{japan_rules}
use Rattle.chrono_business.proofs.law.known_weekends_of_japan.Goals as goal

pub returns-clause-in_2008 : goal.returns-clause-in_2008
unfolding japan_rules date_of_rule holiday_named from_saturday from_sunday date_of_nth_weekday days_with_weekday date_of_ymd date_of_day days_before_year days_of_years days_of_months_in
returns-clause-in_2008 c = refl

pub returns-clause-in_2017 : goal.returns-clause-in_2017
unfolding japan_rules date_of_rule holiday_named from_saturday from_sunday date_of_nth_weekday days_with_weekday date_of_ymd date_of_day days_before_year days_of_years days_of_months_in
returns-clause-in_2017 c = refl

pub returns-clause-in_2018 : goal.returns-clause-in_2018
unfolding japan_rules date_of_rule holiday_named from_saturday from_sunday date_of_nth_weekday days_with_weekday date_of_ymd date_of_day days_before_year days_of_years days_of_months_in
returns-clause-in_2018 c = refl

pub returns-clause-in_2021 : goal.returns-clause-in_2021
unfolding japan_rules date_of_rule holiday_named from_saturday from_sunday date_of_nth_weekday days_with_weekday date_of_ymd date_of_day days_before_year days_of_years days_of_months_in
returns-clause-in_2021 c = refl

pub returns-clause-in_2029 : goal.returns-clause-in_2029
unfolding japan_rules date_of_rule holiday_named from_saturday from_sunday date_of_nth_weekday days_with_weekday date_of_ymd date_of_day days_before_year days_of_years days_of_months_in
returns-clause-in_2029 c = refl

pub returns-clause-in_2030 : goal.returns-clause-in_2030
unfolding japan_rules date_of_rule holiday_named from_saturday from_sunday date_of_nth_weekday days_with_weekday date_of_ymd date_of_day days_before_year days_of_years days_of_months_in
returns-clause-in_2030 c = refl

pub returns-clause-in_2033 : goal.returns-clause-in_2033
unfolding japan_rules date_of_rule holiday_named from_saturday from_sunday date_of_nth_weekday days_with_weekday date_of_ymd date_of_day days_before_year days_of_years days_of_months_in
returns-clause-in_2033 c = refl
