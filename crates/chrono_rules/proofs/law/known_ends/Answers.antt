use Rattle.std.proofs.Common.{refl}
use Rattle.chrono_datetime.specs.Days.{day_of_ordinal, days_after_zero, days_before_zero, days_of_months_in, month_of_ordinal, ordinal_name_of}
use Rattle.chrono_datetime.specs.Recurrence.{count_between, count_where}
use Rattle.chrono_rules.specs.ByParts.{counts_in_month, date_passes, fills_day, fills_month, fills_weekday, has_numbers, in_week, on_month_day, on_weekday, on_year_day, passes}
use Rattle.chrono_sets.specs.FiniteSets.{has}
use Rattle.chrono_rules.specs.Instances.{in_interval, in_positions, is_counted, is_instance, is_member, not_after}
use Rattle.chrono_rules.specs.Periods.{period_end, period_first, period_of}
use Rattle.chrono_rules.proofs.law.known_ends.Goals as goal

pub returns-clause-until_itself : goal.returns-clause-until_itself
unfolding is_instance is_counted is_member not_after in_interval in_positions passes date_passes on_weekday on_month_day on_year_day in_week has has_numbers counts_in_month fills_weekday fills_day fills_month period_of period_first period_end count_between count_where ordinal_name_of days_after_zero days_before_zero month_of_ordinal day_of_ordinal days_of_months_in
returns-clause-until_itself c = refl

pub returns-clause-until_behind : goal.returns-clause-until_behind
unfolding is_instance is_counted is_member not_after in_interval in_positions passes date_passes on_weekday on_month_day on_year_day in_week has has_numbers counts_in_month fills_weekday fills_day fills_month period_of period_first period_end count_between count_where ordinal_name_of days_after_zero days_before_zero month_of_ordinal day_of_ordinal days_of_months_in
returns-clause-until_behind c = refl

pub returns-clause-start : goal.returns-clause-start
unfolding is_instance is_counted is_member not_after in_interval in_positions passes date_passes on_weekday on_month_day on_year_day in_week has has_numbers counts_in_month fills_weekday fills_day fills_month period_of period_first period_end count_between count_where ordinal_name_of days_after_zero days_before_zero month_of_ordinal day_of_ordinal days_of_months_in
returns-clause-start c = refl

pub returns-clause-before_start : goal.returns-clause-before_start
unfolding is_instance is_counted is_member not_after in_interval in_positions passes date_passes on_weekday on_month_day on_year_day in_week has has_numbers counts_in_month fills_weekday fills_day fills_month period_of period_first period_end count_between count_where ordinal_name_of days_after_zero days_before_zero month_of_ordinal day_of_ordinal days_of_months_in
returns-clause-before_start c = refl

pub returns-clause-interval_0 : goal.returns-clause-interval_0
unfolding is_instance is_counted is_member not_after in_interval in_positions passes date_passes on_weekday on_month_day on_year_day in_week has has_numbers counts_in_month fills_weekday fills_day fills_month period_of period_first period_end count_between count_where ordinal_name_of days_after_zero days_before_zero month_of_ordinal day_of_ordinal days_of_months_in
returns-clause-interval_0 c = refl

pub returns-clause-interval_2 : goal.returns-clause-interval_2
unfolding is_instance is_counted is_member not_after in_interval in_positions passes date_passes on_weekday on_month_day on_year_day in_week has has_numbers counts_in_month fills_weekday fills_day fills_month period_of period_first period_end count_between count_where ordinal_name_of days_after_zero days_before_zero month_of_ordinal day_of_ordinal days_of_months_in
returns-clause-interval_2 c = refl
