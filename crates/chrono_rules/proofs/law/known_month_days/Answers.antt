use Rattle.std.proofs.Common.{refl}
use Rattle.chrono_datetime.specs.Days.{day_of_ordinal, days_after_zero, days_before_zero, days_of_months_in, month_of_ordinal, ordinal_name_of}
use Rattle.chrono_datetime.specs.Recurrence.{count_between, count_where}
use Rattle.chrono_rules.specs.ByParts.{counts_in_month, date_passes, fills_day, fills_month, fills_weekday, has_numbers, in_week, on_month_day, on_weekday, on_year_day, passes}
use Rattle.chrono_sets.specs.FiniteSets.{has}
use Rattle.chrono_rules.specs.Instances.{in_interval, in_positions, is_counted, is_instance, is_member, not_after}
use Rattle.chrono_rules.specs.Periods.{period_end, period_first, period_of}
use Rattle.chrono_rules.proofs.law.known_month_days.Goals as goal

pub returns-clause-third_to_last_october : goal.returns-clause-third_to_last_october
unfolding is_instance is_counted is_member not_after in_interval in_positions passes date_passes on_weekday on_month_day on_year_day in_week has has_numbers counts_in_month fills_weekday fills_day fills_month period_of period_first period_end count_between count_where ordinal_name_of days_after_zero days_before_zero month_of_ordinal day_of_ordinal days_of_months_in
returns-clause-third_to_last_october c = refl

pub returns-clause-third_to_last_february : goal.returns-clause-third_to_last_february
unfolding is_instance is_counted is_member not_after in_interval in_positions passes date_passes on_weekday on_month_day on_year_day in_week has has_numbers counts_in_month fills_weekday fills_day fills_month period_of period_first period_end count_between count_where ordinal_name_of days_after_zero days_before_zero month_of_ordinal day_of_ordinal days_of_months_in
returns-clause-third_to_last_february c = refl

pub returns-clause-third_to_last_late : goal.returns-clause-third_to_last_late
unfolding is_instance is_counted is_member not_after in_interval in_positions passes date_passes on_weekday on_month_day on_year_day in_week has has_numbers counts_in_month fills_weekday fills_day fills_month period_of period_first period_end count_between count_where ordinal_name_of days_after_zero days_before_zero month_of_ordinal day_of_ordinal days_of_months_in
returns-clause-third_to_last_late c = refl

pub returns-clause-in_july_tenth : goal.returns-clause-in_july_tenth
unfolding is_instance is_counted is_member not_after in_interval in_positions passes date_passes on_weekday on_month_day on_year_day in_week has has_numbers counts_in_month fills_weekday fills_day fills_month period_of period_first period_end count_between count_where ordinal_name_of days_after_zero days_before_zero month_of_ordinal day_of_ordinal days_of_months_in
returns-clause-in_july_tenth c = refl

pub returns-clause-in_july_ninth : goal.returns-clause-in_july_ninth
unfolding is_instance is_counted is_member not_after in_interval in_positions passes date_passes on_weekday on_month_day on_year_day in_week has has_numbers counts_in_month fills_weekday fills_day fills_month period_of period_first period_end count_between count_where ordinal_name_of days_after_zero days_before_zero month_of_ordinal day_of_ordinal days_of_months_in
returns-clause-in_july_ninth c = refl

pub returns-clause-each_month_second : goal.returns-clause-each_month_second
unfolding is_instance is_counted is_member not_after in_interval in_positions passes date_passes on_weekday on_month_day on_year_day in_week has has_numbers counts_in_month fills_weekday fills_day fills_month period_of period_first period_end count_between count_where ordinal_name_of days_after_zero days_before_zero month_of_ordinal day_of_ordinal days_of_months_in
returns-clause-each_month_second c = refl

pub returns-clause-each_month_third : goal.returns-clause-each_month_third
unfolding is_instance is_counted is_member not_after in_interval in_positions passes date_passes on_weekday on_month_day on_year_day in_week has has_numbers counts_in_month fills_weekday fills_day fills_month period_of period_first period_end count_between count_where ordinal_name_of days_after_zero days_before_zero month_of_ordinal day_of_ordinal days_of_months_in
returns-clause-each_month_third c = refl

pub returns-clause-each_week_tuesday : goal.returns-clause-each_week_tuesday
unfolding is_instance is_counted is_member not_after in_interval in_positions passes date_passes on_weekday on_month_day on_year_day in_week has has_numbers counts_in_month fills_weekday fills_day fills_month period_of period_first period_end count_between count_where ordinal_name_of days_after_zero days_before_zero month_of_ordinal day_of_ordinal days_of_months_in
returns-clause-each_week_tuesday c = refl

pub returns-clause-each_week_wednesday : goal.returns-clause-each_week_wednesday
unfolding is_instance is_counted is_member not_after in_interval in_positions passes date_passes on_weekday on_month_day on_year_day in_week has has_numbers counts_in_month fills_weekday fills_day fills_month period_of period_first period_end count_between count_where ordinal_name_of days_after_zero days_before_zero month_of_ordinal day_of_ordinal days_of_months_in
returns-clause-each_week_wednesday c = refl

pub returns-clause-each_year_next_month : goal.returns-clause-each_year_next_month
unfolding is_instance is_counted is_member not_after in_interval in_positions passes date_passes on_weekday on_month_day on_year_day in_week has has_numbers counts_in_month fills_weekday fills_day fills_month period_of period_first period_end count_between count_where ordinal_name_of days_after_zero days_before_zero month_of_ordinal day_of_ordinal days_of_months_in
returns-clause-each_year_next_month c = refl

pub returns-clause-each_year_next_year : goal.returns-clause-each_year_next_year
unfolding is_instance is_counted is_member not_after in_interval in_positions passes date_passes on_weekday on_month_day on_year_day in_week has has_numbers counts_in_month fills_weekday fills_day fills_month period_of period_first period_end count_between count_where ordinal_name_of days_after_zero days_before_zero month_of_ordinal day_of_ordinal days_of_months_in
returns-clause-each_year_next_year c = refl

pub returns-clause-fifteenth_october : goal.returns-clause-fifteenth_october
unfolding is_instance is_counted is_member not_after in_interval in_positions passes date_passes on_weekday on_month_day on_year_day in_week has has_numbers counts_in_month fills_weekday fills_day fills_month period_of period_first period_end count_between count_where ordinal_name_of days_after_zero days_before_zero month_of_ordinal day_of_ordinal days_of_months_in
returns-clause-fifteenth_october c = refl

pub returns-clause-fifteenth_start : goal.returns-clause-fifteenth_start
unfolding is_instance is_counted is_member not_after in_interval in_positions passes date_passes on_weekday on_month_day on_year_day in_week has has_numbers counts_in_month fills_weekday fills_day fills_month period_of period_first period_end count_between count_where ordinal_name_of days_after_zero days_before_zero month_of_ordinal day_of_ordinal days_of_months_in
returns-clause-fifteenth_start c = refl

pub returns-clause-of_year_fifteenth : goal.returns-clause-of_year_fifteenth
unfolding is_instance is_counted is_member not_after in_interval in_positions passes date_passes on_weekday on_month_day on_year_day in_week has has_numbers counts_in_month fills_weekday fills_day fills_month period_of period_first period_end count_between count_where ordinal_name_of days_after_zero days_before_zero month_of_ordinal day_of_ordinal days_of_months_in
returns-clause-of_year_fifteenth c = refl

pub returns-clause-in_august : goal.returns-clause-in_august
unfolding is_instance is_counted is_member not_after in_interval in_positions passes date_passes on_weekday on_month_day on_year_day in_week has has_numbers counts_in_month fills_weekday fills_day fills_month period_of period_first period_end count_between count_where ordinal_name_of days_after_zero days_before_zero month_of_ordinal day_of_ordinal days_of_months_in
returns-clause-in_august c = refl

pub returns-clause-monthly_in_august : goal.returns-clause-monthly_in_august
unfolding is_instance is_counted is_member not_after in_interval in_positions passes date_passes on_weekday on_month_day on_year_day in_week has has_numbers counts_in_month fills_weekday fills_day fills_month period_of period_first period_end count_between count_where ordinal_name_of days_after_zero days_before_zero month_of_ordinal day_of_ordinal days_of_months_in
returns-clause-monthly_in_august c = refl

pub returns-clause-daily_in_june : goal.returns-clause-daily_in_june
unfolding is_instance is_counted is_member not_after in_interval in_positions passes date_passes on_weekday on_month_day on_year_day in_week has has_numbers counts_in_month fills_weekday fills_day fills_month period_of period_first period_end count_between count_where ordinal_name_of days_after_zero days_before_zero month_of_ordinal day_of_ordinal days_of_months_in
returns-clause-daily_in_june c = refl

pub returns-clause-daily_in_august : goal.returns-clause-daily_in_august
unfolding is_instance is_counted is_member not_after in_interval in_positions passes date_passes on_weekday on_month_day on_year_day in_week has has_numbers counts_in_month fills_weekday fills_day fills_month period_of period_first period_end count_between count_where ordinal_name_of days_after_zero days_before_zero month_of_ordinal day_of_ordinal days_of_months_in
returns-clause-daily_in_august c = refl

pub returns-clause-months_6_later : goal.returns-clause-months_6_later
unfolding is_instance is_counted is_member not_after in_interval in_positions passes date_passes on_weekday on_month_day on_year_day in_week has has_numbers counts_in_month fills_weekday fills_day fills_month period_of period_first period_end count_between count_where ordinal_name_of days_after_zero days_before_zero month_of_ordinal day_of_ordinal days_of_months_in
returns-clause-months_6_later c = refl

pub returns-clause-months_18_later : goal.returns-clause-months_18_later
unfolding is_instance is_counted is_member not_after in_interval in_positions passes date_passes on_weekday on_month_day on_year_day in_week has has_numbers counts_in_month fills_weekday fills_day fills_month period_of period_first period_end count_between count_where ordinal_name_of days_after_zero days_before_zero month_of_ordinal day_of_ordinal days_of_months_in
returns-clause-months_18_later c = refl

pub returns-clause-each_week_next_month : goal.returns-clause-each_week_next_month
unfolding is_instance is_counted is_member not_after in_interval in_positions passes date_passes on_weekday on_month_day on_year_day in_week has has_numbers counts_in_month fills_weekday fills_day fills_month period_of period_first period_end count_between count_where ordinal_name_of days_after_zero days_before_zero month_of_ordinal day_of_ordinal days_of_months_in
returns-clause-each_week_next_month c = refl
