use Rattle.std.proofs.Common.{refl}
use Rattle.chrono_datetime.specs.Recurrence.{count_between, count_where}
use Rattle.chrono_rules.specs.ByParts.{fills_day, fills_month, fills_weekday, has_numbers, passes}
use Rattle.chrono_sets.specs.FiniteSets.{has}
use Rattle.chrono_rules.specs.Instances.{in_interval, in_positions, is_counted, is_instance, is_member, not_after}
use Rattle.chrono_rules.specs.Periods.{period_of}
use Rattle.chrono_rules.specs.RecurrenceSets.{is_in_recurrence, is_instance_or_date}
use Rattle.chrono_rules.proofs.law.known_recurrence.Goals as goal

pub returns-clause-instance : goal.returns-clause-instance
unfolding is_in_recurrence is_instance_or_date is_instance is_counted is_member not_after in_interval in_positions passes has_numbers has fills_weekday fills_day fills_month period_of count_between count_where
returns-clause-instance c = refl

pub returns-clause-date : goal.returns-clause-date
unfolding is_in_recurrence is_instance_or_date is_instance is_counted is_member not_after in_interval in_positions passes has_numbers has fills_weekday fills_day fills_month period_of count_between count_where
returns-clause-date c = refl

pub returns-clause-date_excepted : goal.returns-clause-date_excepted
unfolding is_in_recurrence is_instance_or_date is_instance is_counted is_member not_after in_interval in_positions passes has_numbers has fills_weekday fills_day fills_month period_of count_between count_where
returns-clause-date_excepted c = refl

pub returns-clause-neither : goal.returns-clause-neither
unfolding is_in_recurrence is_instance_or_date is_instance is_counted is_member not_after in_interval in_positions passes has_numbers has fills_weekday fills_day fills_month period_of count_between count_where
returns-clause-neither c = refl

pub returns-clause-instance_excepted : goal.returns-clause-instance_excepted
unfolding is_in_recurrence is_instance_or_date is_instance is_counted is_member not_after in_interval in_positions passes has_numbers has fills_weekday fills_day fills_month period_of count_between count_where
returns-clause-instance_excepted c = refl

pub returns-clause-next : goal.returns-clause-next
unfolding is_in_recurrence is_instance_or_date is_instance is_counted is_member not_after in_interval in_positions passes has_numbers has fills_weekday fills_day fills_month period_of count_between count_where
returns-clause-next c = refl

pub returns-clause-last : goal.returns-clause-last
unfolding is_in_recurrence is_instance_or_date is_instance is_counted is_member not_after in_interval in_positions passes has_numbers has fills_weekday fills_day fills_month period_of count_between count_where
returns-clause-last c = refl

pub returns-clause-no_sixth : goal.returns-clause-no_sixth
unfolding is_in_recurrence is_instance_or_date is_instance is_counted is_member not_after in_interval in_positions passes has_numbers has fills_weekday fills_day fills_month period_of count_between count_where
returns-clause-no_sixth c = refl
