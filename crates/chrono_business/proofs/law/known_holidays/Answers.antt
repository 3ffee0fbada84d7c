use Rattle.std.proofs.Common.{refl}
use Rattle.chrono_datetime.specs.Days.{date_of_day, date_of_ymd, days_before_year, days_of_months_in, days_of_years}
use Rattle.chrono_datetime.specs.Weeks.{date_of_nth_weekday, days_with_weekday}
use Rattle.chrono_business.specs.Easter.{date_of_easter, days_to_moon, easter_day, epact}
use Rattle.chrono_business.specs.HolidayRules.{holiday_named, date_of_rule, from_saturday, from_sunday}
use Rattle.chrono_business.proofs.law.known_holidays.Goals as goal

pub returns-clause-juneteenth : goal.returns-clause-juneteenth
unfolding date_of_rule holiday_named from_saturday from_sunday date_of_easter easter_day epact days_to_moon date_of_nth_weekday days_with_weekday date_of_ymd date_of_day days_before_year days_of_years days_of_months_in
returns-clause-juneteenth c = refl

pub returns-clause-before_the_law : goal.returns-clause-before_the_law
unfolding date_of_rule holiday_named from_saturday from_sunday date_of_easter easter_day epact days_to_moon date_of_nth_weekday days_with_weekday date_of_ymd date_of_day days_before_year days_of_years days_of_months_in
returns-clause-before_the_law c = refl

pub returns-clause-independence_day : goal.returns-clause-independence_day
unfolding date_of_rule holiday_named from_saturday from_sunday date_of_easter easter_day epact days_to_moon date_of_nth_weekday days_with_weekday date_of_ymd date_of_day days_before_year days_of_years days_of_months_in
returns-clause-independence_day c = refl

pub returns-clause-new_year : goal.returns-clause-new_year
unfolding date_of_rule holiday_named from_saturday from_sunday date_of_easter easter_day epact days_to_moon date_of_nth_weekday days_with_weekday date_of_ymd date_of_day days_before_year days_of_years days_of_months_in
returns-clause-new_year c = refl

pub returns-clause-thanksgiving : goal.returns-clause-thanksgiving
unfolding date_of_rule holiday_named from_saturday from_sunday date_of_easter easter_day epact days_to_moon date_of_nth_weekday days_with_weekday date_of_ymd date_of_day days_before_year days_of_years days_of_months_in
returns-clause-thanksgiving c = refl

pub returns-clause-good_friday : goal.returns-clause-good_friday
unfolding date_of_rule holiday_named from_saturday from_sunday date_of_easter easter_day epact days_to_moon date_of_nth_weekday days_with_weekday date_of_ymd date_of_day days_before_year days_of_years days_of_months_in
returns-clause-good_friday c = refl

pub returns-clause-early_may : goal.returns-clause-early_may
unfolding date_of_rule holiday_named from_saturday from_sunday date_of_easter easter_day epact days_to_moon date_of_nth_weekday days_with_weekday date_of_ymd date_of_day days_before_year days_of_years days_of_months_in
returns-clause-early_may c = refl

pub returns-clause-boxing_day : goal.returns-clause-boxing_day
unfolding date_of_rule holiday_named from_saturday from_sunday date_of_easter easter_day epact days_to_moon date_of_nth_weekday days_with_weekday date_of_ymd date_of_day days_before_year days_of_years days_of_months_in
returns-clause-boxing_day c = refl

pub returns-clause-no_fifth_monday : goal.returns-clause-no_fifth_monday
unfolding date_of_rule holiday_named from_saturday from_sunday date_of_easter easter_day epact days_to_moon date_of_nth_weekday days_with_weekday date_of_ymd date_of_day days_before_year days_of_years days_of_months_in
returns-clause-no_fifth_monday c = refl

pub returns-clause-no_leap_day : goal.returns-clause-no_leap_day
unfolding date_of_rule holiday_named from_saturday from_sunday date_of_easter easter_day epact days_to_moon date_of_nth_weekday days_with_weekday date_of_ymd date_of_day days_before_year days_of_years days_of_months_in
returns-clause-no_leap_day c = refl

pub returns-clause-memorial_day : goal.returns-clause-memorial_day
unfolding date_of_rule holiday_named from_saturday from_sunday date_of_easter easter_day epact days_to_moon date_of_nth_weekday days_with_weekday date_of_ymd date_of_day days_before_year days_of_years days_of_months_in
returns-clause-memorial_day c = refl

pub returns-clause-first_year : goal.returns-clause-first_year
unfolding date_of_rule holiday_named from_saturday from_sunday date_of_easter easter_day epact days_to_moon date_of_nth_weekday days_with_weekday date_of_ymd date_of_day days_before_year days_of_years days_of_months_in
returns-clause-first_year c = refl

pub returns-clause-last_year : goal.returns-clause-last_year
unfolding date_of_rule holiday_named from_saturday from_sunday date_of_easter easter_day epact days_to_moon date_of_nth_weekday days_with_weekday date_of_ymd date_of_day days_before_year days_of_years days_of_months_in
returns-clause-last_year c = refl

pub returns-clause-after_the_last_year : goal.returns-clause-after_the_last_year
unfolding date_of_rule holiday_named from_saturday from_sunday date_of_easter easter_day epact days_to_moon date_of_nth_weekday days_with_weekday date_of_ymd date_of_day days_before_year days_of_years days_of_months_in
returns-clause-after_the_last_year c = refl
