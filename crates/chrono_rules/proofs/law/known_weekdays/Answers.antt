use Rattle.std.proofs.Common.{refl}
use Rattle.chrono_datetime.specs.Days.{day_of_ordinal, days_after_zero, days_before_zero, days_of_months_in, month_of_ordinal, ordinal_name_of}
use Rattle.chrono_datetime.specs.Recurrence.{count_between, count_where}
use Rattle.chrono_rules.specs.ByParts.{counts_in_month, date_passes, fills_day, fills_month, fills_weekday, has_numbers, in_week, on_month_day, on_weekday, on_year_day, passes}
use Rattle.chrono_sets.specs.FiniteSets.{has}
use Rattle.chrono_rules.specs.Instances.{in_interval, in_positions, is_counted, is_instance, is_member, not_after}
use Rattle.chrono_rules.specs.Periods.{period_end, period_first, period_of}
use Rattle.chrono_rules.proofs.law.known_weekdays.Goals as goal

pub returns-clause-of_year_early : goal.returns-clause-of_year_early
unfolding is_instance is_counted is_member not_after in_interval in_positions passes date_passes on_weekday on_month_day on_year_day in_week has has_numbers counts_in_month fills_weekday fills_day fills_month period_of period_first period_end count_between count_where ordinal_name_of days_after_zero days_before_zero month_of_ordinal day_of_ordinal days_of_months_in
returns-clause-of_year_early c = refl

pub returns-clause-of_year_monday : goal.returns-clause-of_year_monday
unfolding is_instance is_counted is_member not_after in_interval in_positions passes date_passes on_weekday on_month_day on_year_day in_week has has_numbers counts_in_month fills_weekday fills_day fills_month period_of period_first period_end count_between count_where ordinal_name_of days_after_zero days_before_zero month_of_ordinal day_of_ordinal days_of_months_in
returns-clause-of_year_monday c = refl

pub returns-clause-of_month_friday : goal.returns-clause-of_month_friday
unfolding is_instance is_counted is_member not_after in_interval in_positions passes date_passes on_weekday on_month_day on_year_day in_week has has_numbers counts_in_month fills_weekday fills_day fills_month period_of period_first period_end count_between count_where ordinal_name_of days_after_zero days_before_zero month_of_ordinal day_of_ordinal days_of_months_in
returns-clause-of_month_friday c = refl

pub returns-clause-of_month_late : goal.returns-clause-of_month_late
unfolding is_instance is_counted is_member not_after in_interval in_positions passes date_passes on_weekday on_month_day on_year_day in_week has has_numbers counts_in_month fills_weekday fills_day fills_month period_of period_first period_end count_between count_where ordinal_name_of days_after_zero days_before_zero month_of_ordinal day_of_ordinal days_of_months_in
returns-clause-of_month_late c = refl

pub returns-clause-of_month_seventh : goal.returns-clause-of_month_seventh
unfolding is_instance is_counted is_member not_after in_interval in_positions passes date_passes on_weekday on_month_day on_year_day in_week has has_numbers counts_in_month fills_weekday fills_day fills_month period_of period_first period_end count_between count_where ordinal_name_of days_after_zero days_before_zero month_of_ordinal day_of_ordinal days_of_months_in
returns-clause-of_month_seventh c = refl

pub returns-clause-of_month_back_monday : goal.returns-clause-of_month_back_monday
unfolding is_instance is_counted is_member not_after in_interval in_positions passes date_passes on_weekday on_month_day on_year_day in_week has has_numbers counts_in_month fills_weekday fills_day fills_month period_of period_first period_end count_between count_where ordinal_name_of days_after_zero days_before_zero month_of_ordinal day_of_ordinal days_of_months_in
returns-clause-of_month_back_monday c = refl

pub returns-clause-of_month_back_late : goal.returns-clause-of_month_back_late
unfolding is_instance is_counted is_member not_after in_interval in_positions passes date_passes on_weekday on_month_day on_year_day in_week has has_numbers counts_in_month fills_weekday fills_day fills_month period_of period_first period_end count_between count_where ordinal_name_of days_after_zero days_before_zero month_of_ordinal day_of_ordinal days_of_months_in
returns-clause-of_month_back_late c = refl

pub returns-clause-of_month_back_november : goal.returns-clause-of_month_back_november
unfolding is_instance is_counted is_member not_after in_interval in_positions passes date_passes on_weekday on_month_day on_year_day in_week has has_numbers counts_in_month fills_weekday fills_day fills_month period_of period_first period_end count_between count_where ordinal_name_of days_after_zero days_before_zero month_of_ordinal day_of_ordinal days_of_months_in
returns-clause-of_month_back_november c = refl

pub returns-clause-of_october_early : goal.returns-clause-of_october_early
unfolding is_instance is_counted is_member not_after in_interval in_positions passes date_passes on_weekday on_month_day on_year_day in_week has has_numbers counts_in_month fills_weekday fills_day fills_month period_of period_first period_end count_between count_where ordinal_name_of days_after_zero days_before_zero month_of_ordinal day_of_ordinal days_of_months_in
returns-clause-of_october_early c = refl

pub returns-clause-of_october_sunday : goal.returns-clause-of_october_sunday
unfolding is_instance is_counted is_member not_after in_interval in_positions passes date_passes on_weekday on_month_day on_year_day in_week has has_numbers counts_in_month fills_weekday fills_day fills_month period_of period_first period_end count_between count_where ordinal_name_of days_after_zero days_before_zero month_of_ordinal day_of_ordinal days_of_months_in
returns-clause-of_october_sunday c = refl

pub returns-clause-of_year_back_leap : goal.returns-clause-of_year_back_leap
unfolding is_instance is_counted is_member not_after in_interval in_positions passes date_passes on_weekday on_month_day on_year_day in_week has has_numbers counts_in_month fills_weekday fills_day fills_month period_of period_first period_end count_between count_where ordinal_name_of days_after_zero days_before_zero month_of_ordinal day_of_ordinal days_of_months_in
returns-clause-of_year_back_leap c = refl

pub returns-clause-of_year_back_last : goal.returns-clause-of_year_back_last
unfolding is_instance is_counted is_member not_after in_interval in_positions passes date_passes on_weekday on_month_day on_year_day in_week has has_numbers counts_in_month fills_weekday fills_day fills_month period_of period_first period_end count_between count_where ordinal_name_of days_after_zero days_before_zero month_of_ordinal day_of_ordinal days_of_months_in
returns-clause-of_year_back_last c = refl

pub returns-clause-fifth_friday : goal.returns-clause-fifth_friday
unfolding is_instance is_counted is_member not_after in_interval in_positions passes date_passes on_weekday on_month_day on_year_day in_week has has_numbers counts_in_month fills_weekday fills_day fills_month period_of period_first period_end count_between count_where ordinal_name_of days_after_zero days_before_zero month_of_ordinal day_of_ordinal days_of_months_in
returns-clause-fifth_friday c = refl

pub returns-clause-fifth_of_four : goal.returns-clause-fifth_of_four
unfolding is_instance is_counted is_member not_after in_interval in_positions passes date_passes on_weekday on_month_day on_year_day in_week has has_numbers counts_in_month fills_weekday fills_day fills_month period_of period_first period_end count_between count_where ordinal_name_of days_after_zero days_before_zero month_of_ordinal day_of_ordinal days_of_months_in
returns-clause-fifth_of_four c = refl

pub returns-clause-of_no_month : goal.returns-clause-of_no_month
unfolding is_instance is_counted is_member not_after in_interval in_positions passes date_passes on_weekday on_month_day on_year_day in_week has has_numbers counts_in_month fills_weekday fills_day fills_month period_of period_first period_end count_between count_where ordinal_name_of days_after_zero days_before_zero month_of_ordinal day_of_ordinal days_of_months_in
returns-clause-of_no_month c = refl

pub returns-clause-of_no_day : goal.returns-clause-of_no_day
unfolding is_instance is_counted is_member not_after in_interval in_positions passes date_passes on_weekday on_month_day on_year_day in_week has has_numbers counts_in_month fills_weekday fills_day fills_month period_of period_first period_end count_between count_where ordinal_name_of days_after_zero days_before_zero month_of_ordinal day_of_ordinal days_of_months_in
returns-clause-of_no_day c = refl

pub returns-clause-either_monday : goal.returns-clause-either_monday
unfolding is_instance is_counted is_member not_after in_interval in_positions passes date_passes on_weekday on_month_day on_year_day in_week has has_numbers counts_in_month fills_weekday fills_day fills_month period_of period_first period_end count_between count_where ordinal_name_of days_after_zero days_before_zero month_of_ordinal day_of_ordinal days_of_months_in
returns-clause-either_monday c = refl

pub returns-clause-either_friday : goal.returns-clause-either_friday
unfolding is_instance is_counted is_member not_after in_interval in_positions passes date_passes on_weekday on_month_day on_year_day in_week has has_numbers counts_in_month fills_weekday fills_day fills_month period_of period_first period_end count_between count_where ordinal_name_of days_after_zero days_before_zero month_of_ordinal day_of_ordinal days_of_months_in
returns-clause-either_friday c = refl

pub returns-clause-either_late : goal.returns-clause-either_late
unfolding is_instance is_counted is_member not_after in_interval in_positions passes date_passes on_weekday on_month_day on_year_day in_week has has_numbers counts_in_month fills_weekday fills_day fills_month period_of period_first period_end count_between count_where ordinal_name_of days_after_zero days_before_zero month_of_ordinal day_of_ordinal days_of_months_in
returns-clause-either_late c = refl
