use Rattle.std.proofs.Common.{refl}
use Rattle.chrono_datetime.specs.Days.{day_of_ordinal, days_after_zero, days_before_zero, days_of_months_in, month_of_ordinal, ordinal_name_of}
use Rattle.chrono_datetime.specs.DateLists.{days_from, in_steps}
use Rattle.chrono_datetime.specs.Recurrence.{count_between, count_where}
use Rattle.chrono_rules.specs.InstanceLists.{instances_from}
use Rattle.chrono_rules.specs.InstanceMoments.{instance_moments}
use Rattle.chrono_rules.specs.RecurrenceSets.{is_in_recurrence, is_instance_or_date, recurrence_from}
use Rattle.chrono_rules.specs.ByParts.{counts_in_month, date_passes, fills_day, fills_month, fills_weekday, has_numbers, in_week, on_month_day, on_weekday, on_year_day, passes}
use Rattle.chrono_sets.specs.FiniteSets.{has}
use Rattle.chrono_rules.specs.Instances.{in_interval, in_positions, is_counted, is_instance, is_member, not_after}
use Rattle.chrono_rules.specs.Periods.{period_end, period_first, period_of}
use Rattle.chrono_rules.proofs.law.known_lists.Goals as goal

pub returns-clause-second : goal.returns-clause-second
unfolding is_instance is_counted is_member not_after in_interval in_positions passes date_passes on_weekday on_month_day on_year_day in_week has has_numbers counts_in_month fills_weekday fills_day fills_month period_of period_first period_end count_between count_where ordinal_name_of days_after_zero days_before_zero month_of_ordinal day_of_ordinal days_of_months_in instances_from days_from in_steps
returns-clause-second c = refl

pub returns-clause-before_start : goal.returns-clause-before_start
unfolding is_instance is_counted is_member not_after in_interval in_positions passes date_passes on_weekday on_month_day on_year_day in_week has has_numbers counts_in_month fills_weekday fills_day fills_month period_of period_first period_end count_between count_where ordinal_name_of days_after_zero days_before_zero month_of_ordinal day_of_ordinal days_of_months_in instances_from days_from in_steps
returns-clause-before_start c = refl

pub returns-clause-counted : goal.returns-clause-counted
unfolding is_instance is_counted is_member not_after in_interval in_positions passes date_passes on_weekday on_month_day on_year_day in_week has has_numbers counts_in_month fills_weekday fills_day fills_month period_of period_first period_end count_between count_where ordinal_name_of days_after_zero days_before_zero month_of_ordinal day_of_ordinal days_of_months_in instances_from days_from in_steps
returns-clause-counted c = refl

pub returns-clause-moments : goal.returns-clause-moments
unfolding is_instance is_counted is_member not_after in_interval in_positions passes date_passes on_weekday on_month_day on_year_day in_week has has_numbers counts_in_month fills_weekday fills_day fills_month period_of period_first period_end count_between count_where ordinal_name_of days_after_zero days_before_zero month_of_ordinal day_of_ordinal days_of_months_in instances_from days_from in_steps instance_moments
returns-clause-moments c = refl

pub returns-clause-recurrence : goal.returns-clause-recurrence
unfolding is_instance is_counted is_member not_after in_interval in_positions passes date_passes on_weekday on_month_day on_year_day in_week has has_numbers counts_in_month fills_weekday fills_day fills_month period_of period_first period_end count_between count_where ordinal_name_of days_after_zero days_before_zero month_of_ordinal day_of_ordinal days_of_months_in instances_from days_from in_steps recurrence_from is_in_recurrence is_instance_or_date
returns-clause-recurrence c = refl
