use Rattle.std.proofs.Common.{refl}
use Rattle.chrono_datetime.specs.Recurrence.{count_between, count_where}
use Rattle.chrono_rules.specs.Instances.{in_interval, in_positions, is_counted, is_instance, is_member, not_after}
use Rattle.chrono_rules.specs.ByParts.{fills_day, fills_month, fills_weekday, has_numbers, on_weekday, passes}
use Rattle.chrono_sets.specs.FiniteSets.{has}
use Rattle.chrono_rules.specs.Periods.{period_of}
use Rattle.chrono_rules.proofs.law.known_rules.Goals as goal

pub returns-clause-monday_10 : goal.returns-clause-monday_10
unfolding is_instance is_counted is_member not_after in_interval in_positions passes on_weekday has_numbers has fills_weekday fills_day fills_month period_of count_between count_where
returns-clause-monday_10 c = refl

pub returns-clause-monday_17 : goal.returns-clause-monday_17
unfolding is_instance is_counted is_member not_after in_interval in_positions passes on_weekday has_numbers has fills_weekday fills_day fills_month period_of count_between count_where
returns-clause-monday_17 c = refl

pub returns-clause-monday_19 : goal.returns-clause-monday_19
unfolding is_instance is_counted is_member not_after in_interval in_positions passes on_weekday has_numbers has fills_weekday fills_day fills_month period_of count_between count_where
returns-clause-monday_19 c = refl

pub returns-clause-monday_24 : goal.returns-clause-monday_24
unfolding is_instance is_counted is_member not_after in_interval in_positions passes on_weekday has_numbers has fills_weekday fills_day fills_month period_of count_between count_where
returns-clause-monday_24 c = refl

pub returns-clause-monday_fifth : goal.returns-clause-monday_fifth
unfolding is_instance is_counted is_member not_after in_interval in_positions passes on_weekday has_numbers has fills_weekday fills_day fills_month period_of count_between count_where
returns-clause-monday_fifth c = refl

pub returns-clause-sunday_10 : goal.returns-clause-sunday_10
unfolding is_instance is_counted is_member not_after in_interval in_positions passes on_weekday has_numbers has fills_weekday fills_day fills_month period_of count_between count_where
returns-clause-sunday_10 c = refl

pub returns-clause-sunday_17 : goal.returns-clause-sunday_17
unfolding is_instance is_counted is_member not_after in_interval in_positions passes on_weekday has_numbers has fills_weekday fills_day fills_month period_of count_between count_where
returns-clause-sunday_17 c = refl

pub returns-clause-sunday_19 : goal.returns-clause-sunday_19
unfolding is_instance is_counted is_member not_after in_interval in_positions passes on_weekday has_numbers has fills_weekday fills_day fills_month period_of count_between count_where
returns-clause-sunday_19 c = refl

pub returns-clause-sunday_31 : goal.returns-clause-sunday_31
unfolding is_instance is_counted is_member not_after in_interval in_positions passes on_weekday has_numbers has fills_weekday fills_day fills_month period_of count_between count_where
returns-clause-sunday_31 c = refl

pub returns-clause-day_11 : goal.returns-clause-day_11
unfolding is_instance is_counted is_member not_after in_interval in_positions passes on_weekday has_numbers has fills_weekday fills_day fills_month period_of count_between count_where
returns-clause-day_11 c = refl

pub returns-clause-day_12 : goal.returns-clause-day_12
unfolding is_instance is_counted is_member not_after in_interval in_positions passes on_weekday has_numbers has fills_weekday fills_day fills_month period_of count_between count_where
returns-clause-day_12 c = refl

pub returns-clause-october_12 : goal.returns-clause-october_12
unfolding is_instance is_counted is_member not_after in_interval in_positions passes on_weekday has_numbers has fills_weekday fills_day fills_month period_of count_between count_where
returns-clause-october_12 c = refl

pub returns-clause-october_22 : goal.returns-clause-october_22
unfolding is_instance is_counted is_member not_after in_interval in_positions passes on_weekday has_numbers has fills_weekday fills_day fills_month period_of count_between count_where
returns-clause-october_22 c = refl
