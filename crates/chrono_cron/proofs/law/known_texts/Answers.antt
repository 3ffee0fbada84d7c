use Rattle.std.proofs.Common.{refl}
use Rattle.chrono_sets.specs.FiniteSets.{has}
use Rattle.chrono_cron.specs.WrittenTexts.{are_all, day_field_items, is_starred_by_day, is_starred_by_hour, is_starred_by_minute, is_starred_by_weekday, names_from, number_items, plain_text, ranges_from, schedule_text, weekday_field_items}
use Rattle.chrono_cron.proofs.law.known_texts.Goals as goal

pub returns-clause-stars : goal.returns-clause-stars
unfolding has schedule_text plain_text day_field_items weekday_field_items is_starred_by_day is_starred_by_hour is_starred_by_minute is_starred_by_weekday number_items are_all names_from ranges_from
returns-clause-stars c = refl

pub returns-clause-ranges : goal.returns-clause-ranges
unfolding has schedule_text plain_text day_field_items weekday_field_items is_starred_by_day is_starred_by_hour is_starred_by_minute is_starred_by_weekday number_items are_all names_from ranges_from
returns-clause-ranges c = refl

pub returns-clause-either : goal.returns-clause-either
unfolding has schedule_text plain_text day_field_items weekday_field_items is_starred_by_day is_starred_by_hour is_starred_by_minute is_starred_by_weekday number_items are_all names_from ranges_from
returns-clause-either c = refl

pub returns-clause-both_by_first : goal.returns-clause-both_by_first
unfolding has schedule_text plain_text day_field_items weekday_field_items is_starred_by_day is_starred_by_hour is_starred_by_minute is_starred_by_weekday number_items are_all names_from ranges_from
returns-clause-both_by_first c = refl

pub returns-clause-both_by_sunday : goal.returns-clause-both_by_sunday
unfolding has schedule_text plain_text day_field_items weekday_field_items is_starred_by_day is_starred_by_hour is_starred_by_minute is_starred_by_weekday number_items are_all names_from ranges_from
returns-clause-both_by_sunday c = refl

pub returns-clause-names : goal.returns-clause-names
unfolding has schedule_text plain_text day_field_items weekday_field_items is_starred_by_day is_starred_by_hour is_starred_by_minute is_starred_by_weekday number_items are_all names_from ranges_from
returns-clause-names c = refl

pub returns-clause-starred_weekdays : goal.returns-clause-starred_weekdays
unfolding has schedule_text plain_text day_field_items weekday_field_items is_starred_by_day is_starred_by_hour is_starred_by_minute is_starred_by_weekday number_items are_all names_from ranges_from
returns-clause-starred_weekdays c = refl

pub returns-clause-both_by_either : goal.returns-clause-both_by_either
unfolding has schedule_text plain_text day_field_items weekday_field_items is_starred_by_day is_starred_by_hour is_starred_by_minute is_starred_by_weekday number_items are_all names_from ranges_from
returns-clause-both_by_either c = refl

pub returns-clause-both_by_neither : goal.returns-clause-both_by_neither
unfolding has schedule_text plain_text day_field_items weekday_field_items is_starred_by_day is_starred_by_hour is_starred_by_minute is_starred_by_weekday number_items are_all names_from ranges_from
returns-clause-both_by_neither c = refl

pub returns-clause-fixed : goal.returns-clause-fixed
unfolding has schedule_text plain_text day_field_items weekday_field_items is_starred_by_day is_starred_by_hour is_starred_by_minute is_starred_by_weekday number_items are_all names_from ranges_from
returns-clause-fixed c = refl

pub returns-clause-each_hour : goal.returns-clause-each_hour
unfolding has schedule_text plain_text day_field_items weekday_field_items is_starred_by_day is_starred_by_hour is_starred_by_minute is_starred_by_weekday number_items are_all names_from ranges_from
returns-clause-each_hour c = refl

pub returns-clause-by_hour : goal.returns-clause-by_hour
unfolding has schedule_text plain_text day_field_items weekday_field_items is_starred_by_day is_starred_by_hour is_starred_by_minute is_starred_by_weekday number_items are_all names_from ranges_from
returns-clause-by_hour c = refl

pub returns-clause-by_minute : goal.returns-clause-by_minute
unfolding has schedule_text plain_text day_field_items weekday_field_items is_starred_by_day is_starred_by_hour is_starred_by_minute is_starred_by_weekday number_items are_all names_from ranges_from
returns-clause-by_minute c = refl
