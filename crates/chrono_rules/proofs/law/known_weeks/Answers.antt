use Rattle.std.proofs.Common.{refl}
use Rattle.chrono_datetime.specs.Days.{day_of_ordinal, days_after_zero, days_before_zero, days_of_months_in, month_of_ordinal, ordinal_name_of}
use Rattle.chrono_datetime.specs.Recurrence.{count_between, count_where}
use Rattle.chrono_rules.specs.ByParts.{counts_in_month, date_passes, fills_day, fills_month, fills_weekday, has_numbers, in_week, on_month_day, on_weekday, on_year_day, passes}
use Rattle.chrono_sets.specs.FiniteSets.{has}
use Rattle.chrono_rules.specs.Instances.{in_interval, in_positions, is_counted, is_instance, is_member, not_after}
use Rattle.chrono_rules.specs.Periods.{period_end, period_first, period_of}
use Rattle.chrono_rules.proofs.law.known_weeks.Goals as goal

pub returns-clause-week_20_1998 : goal.returns-clause-week_20_1998
unfolding is_instance is_counted is_member not_after in_interval in_positions passes date_passes on_weekday on_month_day on_year_day in_week has has_numbers counts_in_month fills_weekday fills_day fills_month period_of period_first period_end count_between count_where ordinal_name_of days_after_zero days_before_zero month_of_ordinal day_of_ordinal days_of_months_in
returns-clause-week_20_1998 c = refl

pub returns-clause-week_20_1999 : goal.returns-clause-week_20_1999
unfolding is_instance is_counted is_member not_after in_interval in_positions passes date_passes on_weekday on_month_day on_year_day in_week has has_numbers counts_in_month fills_weekday fills_day fills_month period_of period_first period_end count_between count_where ordinal_name_of days_after_zero days_before_zero month_of_ordinal day_of_ordinal days_of_months_in
returns-clause-week_20_1999 c = refl

pub returns-clause-week_20_1999_early : goal.returns-clause-week_20_1999_early
unfolding is_instance is_counted is_member not_after in_interval in_positions passes date_passes on_weekday on_month_day on_year_day in_week has has_numbers counts_in_month fills_weekday fills_day fills_month period_of period_first period_end count_between count_where ordinal_name_of days_after_zero days_before_zero month_of_ordinal day_of_ordinal days_of_months_in
returns-clause-week_20_1999_early c = refl

pub returns-clause-week_20_alone_monday : goal.returns-clause-week_20_alone_monday
unfolding is_instance is_counted is_member not_after in_interval in_positions passes date_passes on_weekday on_month_day on_year_day in_week has has_numbers counts_in_month fills_weekday fills_day fills_month period_of period_first period_end count_between count_where ordinal_name_of days_after_zero days_before_zero month_of_ordinal day_of_ordinal days_of_months_in
returns-clause-week_20_alone_monday c = refl

pub returns-clause-week_20_alone_tuesday : goal.returns-clause-week_20_alone_tuesday
unfolding is_instance is_counted is_member not_after in_interval in_positions passes date_passes on_weekday on_month_day on_year_day in_week has has_numbers counts_in_month fills_weekday fills_day fills_month period_of period_first period_end count_between count_where ordinal_name_of days_after_zero days_before_zero month_of_ordinal day_of_ordinal days_of_months_in
returns-clause-week_20_alone_tuesday c = refl

pub returns-clause-last_week_1997 : goal.returns-clause-last_week_1997
unfolding is_instance is_counted is_member not_after in_interval in_positions passes date_passes on_weekday on_month_day on_year_day in_week has has_numbers counts_in_month fills_weekday fills_day fills_month period_of period_first period_end count_between count_where ordinal_name_of days_after_zero days_before_zero month_of_ordinal day_of_ordinal days_of_months_in
returns-clause-last_week_1997 c = refl

pub returns-clause-last_week_1998_early : goal.returns-clause-last_week_1998_early
unfolding is_instance is_counted is_member not_after in_interval in_positions passes date_passes on_weekday on_month_day on_year_day in_week has has_numbers counts_in_month fills_weekday fills_day fills_month period_of period_first period_end count_between count_where ordinal_name_of days_after_zero days_before_zero month_of_ordinal day_of_ordinal days_of_months_in
returns-clause-last_week_1998_early c = refl

pub returns-clause-last_week_1998 : goal.returns-clause-last_week_1998
unfolding is_instance is_counted is_member not_after in_interval in_positions passes date_passes on_weekday on_month_day on_year_day in_week has has_numbers counts_in_month fills_weekday fills_day fills_month period_of period_first period_end count_between count_where ordinal_name_of days_after_zero days_before_zero month_of_ordinal day_of_ordinal days_of_months_in
returns-clause-last_week_1998 c = refl

pub returns-clause-sunday_weeks_first : goal.returns-clause-sunday_weeks_first
unfolding is_instance is_counted is_member not_after in_interval in_positions passes date_passes on_weekday on_month_day on_year_day in_week has has_numbers counts_in_month fills_weekday fills_day fills_month period_of period_first period_end count_between count_where ordinal_name_of days_after_zero days_before_zero month_of_ordinal day_of_ordinal days_of_months_in
returns-clause-sunday_weeks_first c = refl

pub returns-clause-sunday_weeks_second : goal.returns-clause-sunday_weeks_second
unfolding is_instance is_counted is_member not_after in_interval in_positions passes date_passes on_weekday on_month_day on_year_day in_week has has_numbers counts_in_month fills_weekday fills_day fills_month period_of period_first period_end count_between count_where ordinal_name_of days_after_zero days_before_zero month_of_ordinal day_of_ordinal days_of_months_in
returns-clause-sunday_weeks_second c = refl

pub returns-clause-monday_weeks_before : goal.returns-clause-monday_weeks_before
unfolding is_instance is_counted is_member not_after in_interval in_positions passes date_passes on_weekday on_month_day on_year_day in_week has has_numbers counts_in_month fills_weekday fills_day fills_month period_of period_first period_end count_between count_where ordinal_name_of days_after_zero days_before_zero month_of_ordinal day_of_ordinal days_of_months_in
returns-clause-monday_weeks_before c = refl

pub returns-clause-monday_weeks_first : goal.returns-clause-monday_weeks_first
unfolding is_instance is_counted is_member not_after in_interval in_positions passes date_passes on_weekday on_month_day on_year_day in_week has has_numbers counts_in_month fills_weekday fills_day fills_month period_of period_first period_end count_between count_where ordinal_name_of days_after_zero days_before_zero month_of_ordinal day_of_ordinal days_of_months_in
returns-clause-monday_weeks_first c = refl

pub returns-clause-week_53_december : goal.returns-clause-week_53_december
unfolding is_instance is_counted is_member not_after in_interval in_positions passes date_passes on_weekday on_month_day on_year_day in_week has has_numbers counts_in_month fills_weekday fills_day fills_month period_of period_first period_end count_between count_where ordinal_name_of days_after_zero days_before_zero month_of_ordinal day_of_ordinal days_of_months_in
returns-clause-week_53_december c = refl

pub returns-clause-other_years_week_1 : goal.returns-clause-other_years_week_1
unfolding is_instance is_counted is_member not_after in_interval in_positions passes date_passes on_weekday on_month_day on_year_day in_week has has_numbers counts_in_month fills_weekday fills_day fills_month period_of period_first period_end count_between count_where ordinal_name_of days_after_zero days_before_zero month_of_ordinal day_of_ordinal days_of_months_in
returns-clause-other_years_week_1 c = refl

pub returns-clause-other_years_next : goal.returns-clause-other_years_next
unfolding is_instance is_counted is_member not_after in_interval in_positions passes date_passes on_weekday on_month_day on_year_day in_week has has_numbers counts_in_month fills_weekday fills_day fills_month period_of period_first period_end count_between count_where ordinal_name_of days_after_zero days_before_zero month_of_ordinal day_of_ordinal days_of_months_in
returns-clause-other_years_next c = refl

pub returns-clause-first_of_year : goal.returns-clause-first_of_year
unfolding is_instance is_counted is_member not_after in_interval in_positions passes date_passes on_weekday on_month_day on_year_day in_week has has_numbers counts_in_month fills_weekday fills_day fills_month period_of period_first period_end count_between count_where ordinal_name_of days_after_zero days_before_zero month_of_ordinal day_of_ordinal days_of_months_in
returns-clause-first_of_year c = refl

pub returns-clause-week_20_15th : goal.returns-clause-week_20_15th
unfolding is_instance is_counted is_member not_after in_interval in_positions passes date_passes on_weekday on_month_day on_year_day in_week has has_numbers counts_in_month fills_weekday fills_day fills_month period_of period_first period_end count_between count_where ordinal_name_of days_after_zero days_before_zero month_of_ordinal day_of_ordinal days_of_months_in
returns-clause-week_20_15th c = refl

pub returns-clause-week_20_day_135 : goal.returns-clause-week_20_day_135
unfolding is_instance is_counted is_member not_after in_interval in_positions passes date_passes on_weekday on_month_day on_year_day in_week has has_numbers counts_in_month fills_weekday fills_day fills_month period_of period_first period_end count_between count_where ordinal_name_of days_after_zero days_before_zero month_of_ordinal day_of_ordinal days_of_months_in
returns-clause-week_20_day_135 c = refl
