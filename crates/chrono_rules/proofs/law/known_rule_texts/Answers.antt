use Rattle.std.proofs.Common.{refl}
use Rattle.chrono_datetime.specs.Names.{weekday_of_letters}
use Rattle.chrono_datetime.specs.Days.{date_of_ymd, days_before_year, days_of_months_in, days_of_years}
use Rattle.chrono_rules.specs.ByParts.{has_numbers}
use Rattle.chrono_text.specs.Numbers.{count_of, digits_of, natural_of}
use Rattle.chrono_rules.specs.NumberLists.{signed_list_of, listed_number, month_list_of, signed_number_of, listed_weekday, weekdays_of, with_month_text, with_signed_text, with_weekday, with_weekday_text, with_year_text, signed_year_list_of}
use Rattle.chrono_rules.specs.RuleTexts.{date_of, end_of, frequency_of, has_month_days, has_year_parts, interval_of, weekday_of_text}
use Rattle.chrono_rules.proofs.law.known_rule_texts.Goals as goal

pub returns-clause-every_other_day : goal.returns-clause-every_other_day
unfolding frequency_of interval_of count_of end_of date_of date_of_ymd digits_of month_list_of with_month_text listed_number signed_list_of with_signed_text signed_number_of weekdays_of with_weekday_text listed_weekday weekday_of_letters with_weekday with_year_text signed_year_list_of weekday_of_text has_month_days has_year_parts has_numbers natural_of
returns-clause-every_other_day c = record {
  named = refl;
  says = record { frequency = refl; interval = refl; end = refl; months = refl; month_days = refl; weekdays = refl; year_days = refl; weeks = refl; positions = refl; week_start = refl };
  fitting = refl;
}

pub returns-clause-until_christmas : goal.returns-clause-until_christmas
unfolding frequency_of interval_of count_of end_of date_of date_of_ymd digits_of month_list_of with_month_text listed_number signed_list_of with_signed_text signed_number_of weekdays_of with_weekday_text listed_weekday weekday_of_letters with_weekday with_year_text signed_year_list_of weekday_of_text has_month_days has_year_parts has_numbers days_before_year days_of_years days_of_months_in natural_of
returns-clause-until_christmas c = record {
  named = refl;
  says = record { frequency = refl; interval = refl; end = refl; months = refl; month_days = refl; weekdays = refl; year_days = refl; weeks = refl; positions = refl; week_start = refl };
  fitting = refl;
}

pub returns-clause-every_other_week : goal.returns-clause-every_other_week
unfolding frequency_of interval_of count_of end_of date_of date_of_ymd digits_of month_list_of with_month_text listed_number signed_list_of with_signed_text signed_number_of weekdays_of with_weekday_text listed_weekday weekday_of_letters with_weekday with_year_text signed_year_list_of weekday_of_text has_month_days has_year_parts has_numbers natural_of
returns-clause-every_other_week c = record {
  named = refl;
  says = record { frequency = refl; interval = refl; end = refl; months = refl; month_days = refl; weekdays = refl; year_days = refl; weeks = refl; positions = refl; week_start = refl };
  fitting = refl;
}

pub returns-clause-first_friday : goal.returns-clause-first_friday
unfolding frequency_of interval_of count_of end_of date_of date_of_ymd digits_of month_list_of with_month_text listed_number signed_list_of with_signed_text signed_number_of weekdays_of with_weekday_text listed_weekday weekday_of_letters with_weekday with_year_text signed_year_list_of weekday_of_text has_month_days has_year_parts has_numbers natural_of
returns-clause-first_friday c = record {
  named = refl;
  says = record { frequency = refl; interval = refl; end = refl; months = refl; month_days = refl; weekdays = refl; year_days = refl; weeks = refl; positions = refl; week_start = refl };
  fitting = refl;
}

pub returns-clause-both_sundays : goal.returns-clause-both_sundays
unfolding frequency_of interval_of count_of end_of date_of date_of_ymd digits_of month_list_of with_month_text listed_number signed_list_of with_signed_text signed_number_of weekdays_of with_weekday_text listed_weekday weekday_of_letters with_weekday with_year_text signed_year_list_of weekday_of_text has_month_days has_year_parts has_numbers natural_of
returns-clause-both_sundays c = record {
  named = refl;
  says = record { frequency = refl; interval = refl; end = refl; months = refl; month_days = refl; weekdays = refl; year_days = refl; weeks = refl; positions = refl; week_start = refl };
  fitting = refl;
}

pub returns-clause-last_monday_but_one : goal.returns-clause-last_monday_but_one
unfolding frequency_of interval_of count_of end_of date_of date_of_ymd digits_of month_list_of with_month_text listed_number signed_list_of with_signed_text signed_number_of weekdays_of with_weekday_text listed_weekday weekday_of_letters with_weekday with_year_text signed_year_list_of weekday_of_text has_month_days has_year_parts has_numbers natural_of
returns-clause-last_monday_but_one c = record {
  named = refl;
  says = record { frequency = refl; interval = refl; end = refl; months = refl; month_days = refl; weekdays = refl; year_days = refl; weeks = refl; positions = refl; week_start = refl };
  fitting = refl;
}

pub returns-clause-third_to_last : goal.returns-clause-third_to_last
unfolding frequency_of interval_of count_of end_of date_of date_of_ymd digits_of month_list_of with_month_text listed_number signed_list_of with_signed_text signed_number_of weekdays_of with_weekday_text listed_weekday weekday_of_letters with_weekday with_year_text signed_year_list_of weekday_of_text has_month_days has_year_parts has_numbers natural_of
returns-clause-third_to_last c = record {
  named = refl;
  says = record { frequency = refl; interval = refl; end = refl; months = refl; month_days = refl; weekdays = refl; year_days = refl; weeks = refl; positions = refl; week_start = refl };
  fitting = refl;
}

pub returns-clause-first_and_last : goal.returns-clause-first_and_last
unfolding frequency_of interval_of count_of end_of date_of date_of_ymd digits_of month_list_of with_month_text listed_number signed_list_of with_signed_text signed_number_of weekdays_of with_weekday_text listed_weekday weekday_of_letters with_weekday with_year_text signed_year_list_of weekday_of_text has_month_days has_year_parts has_numbers natural_of
returns-clause-first_and_last c = record {
  named = refl;
  says = record { frequency = refl; interval = refl; end = refl; months = refl; month_days = refl; weekdays = refl; year_days = refl; weeks = refl; positions = refl; week_start = refl };
  fitting = refl;
}

pub returns-clause-june_and_july : goal.returns-clause-june_and_july
unfolding frequency_of interval_of count_of end_of date_of date_of_ymd digits_of month_list_of with_month_text listed_number signed_list_of with_signed_text signed_number_of weekdays_of with_weekday_text listed_weekday weekday_of_letters with_weekday with_year_text signed_year_list_of weekday_of_text has_month_days has_year_parts has_numbers natural_of
returns-clause-june_and_july c = record {
  named = refl;
  says = record { frequency = refl; interval = refl; end = refl; months = refl; month_days = refl; weekdays = refl; year_days = refl; weeks = refl; positions = refl; week_start = refl };
  fitting = refl;
}

pub returns-clause-days_of_the_year : goal.returns-clause-days_of_the_year
unfolding frequency_of interval_of count_of end_of date_of date_of_ymd digits_of month_list_of with_month_text listed_number signed_list_of with_signed_text signed_number_of weekdays_of with_weekday_text listed_weekday weekday_of_letters with_weekday with_year_text signed_year_list_of weekday_of_text has_month_days has_year_parts has_numbers natural_of
returns-clause-days_of_the_year c = record {
  named = refl;
  says = record { frequency = refl; interval = refl; end = refl; months = refl; month_days = refl; weekdays = refl; year_days = refl; weeks = refl; positions = refl; week_start = refl };
  fitting = refl;
}

pub returns-clause-monday_of_week_20 : goal.returns-clause-monday_of_week_20
unfolding frequency_of interval_of count_of end_of date_of date_of_ymd digits_of month_list_of with_month_text listed_number signed_list_of with_signed_text signed_number_of weekdays_of with_weekday_text listed_weekday weekday_of_letters with_weekday with_year_text signed_year_list_of weekday_of_text has_month_days has_year_parts has_numbers natural_of
returns-clause-monday_of_week_20 c = record {
  named = refl;
  says = record { frequency = refl; interval = refl; end = refl; months = refl; month_days = refl; weekdays = refl; year_days = refl; weeks = refl; positions = refl; week_start = refl };
  fitting = refl;
}

pub returns-clause-last_workday_but_one : goal.returns-clause-last_workday_but_one
unfolding frequency_of interval_of count_of end_of date_of date_of_ymd digits_of month_list_of with_month_text listed_number signed_list_of with_signed_text signed_number_of weekdays_of with_weekday_text listed_weekday weekday_of_letters with_weekday with_year_text signed_year_list_of weekday_of_text has_month_days has_year_parts has_numbers natural_of
returns-clause-last_workday_but_one c = record {
  named = refl;
  says = record { frequency = refl; interval = refl; end = refl; months = refl; month_days = refl; weekdays = refl; year_days = refl; weeks = refl; positions = refl; week_start = refl };
  fitting = refl;
}

pub returns-clause-election_day : goal.returns-clause-election_day
unfolding frequency_of interval_of count_of end_of date_of date_of_ymd digits_of month_list_of with_month_text listed_number signed_list_of with_signed_text signed_number_of weekdays_of with_weekday_text listed_weekday weekday_of_letters with_weekday with_year_text signed_year_list_of weekday_of_text has_month_days has_year_parts has_numbers natural_of
returns-clause-election_day c = record {
  named = refl;
  says = record { frequency = refl; interval = refl; end = refl; months = refl; month_days = refl; weekdays = refl; year_days = refl; weeks = refl; positions = refl; week_start = refl };
  fitting = refl;
}

pub returns-clause-last_numbers : goal.returns-clause-last_numbers
unfolding frequency_of interval_of count_of end_of date_of date_of_ymd digits_of month_list_of with_month_text listed_number signed_list_of with_signed_text signed_number_of weekdays_of with_weekday_text listed_weekday weekday_of_letters with_weekday with_year_text signed_year_list_of weekday_of_text has_month_days has_year_parts has_numbers natural_of
returns-clause-last_numbers c = record {
  named = refl;
  says = record { frequency = refl; interval = refl; end = refl; months = refl; month_days = refl; weekdays = refl; year_days = refl; weeks = refl; positions = refl; week_start = refl };
  fitting = refl;
}
