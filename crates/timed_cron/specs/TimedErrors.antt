-- What is told of a text that is no schedule of its dialect: the field, the place, and what is wrong there.
use Rattle.std.specs.Prelude.{◌≡◌, ℕ, ◌+◌, Bool, List, [], ◌∷◌, ◌++◌, length, drop, Option, Some, None, codes, refl}
use Rattle.std.specs.Fmt.{decimal}
use Rattle.chrono_cron.specs.ErrorTexts.{schedule_error_text}
use Rattle.chrono_cron.specs.FieldTexts.{field_lists, item_lists, item_span, number_between, number_of_name, range_of, spelled_number, step_of}
use Rattle.chrono_cron.specs.PlacedWords.{placed_items, placed_words}
use Rattle.chrono_cron.specs.ScheduleErrors.{day_name_fault, error_behind, fault_in, field_fault, field_item_fault, field_number_fault, front_fault, front_or, is_item, schedule_error, schedule_error_at, span_fault, weekday_name_fault, wrong_field}
use Rattle.chrono_cron.specs.ScheduleTexts.{days_list, from_end_of, is_last_workday_text, last_weekday_of, names_by_place, names_by_weekday, nearest_workday_of, nth_weekday_of, text_words, weekdays_list}
use Rattle.chrono_datetime.specs.Names.{month_of_letters, weekday_of_letters}
use Rattle.chrono_text.specs.Numbers.{digits_of, natural_of}
use Rattle.chrono_cron.specs.declared.text.number_names.Names.TheVariants.{Numbers}
use Rattle.chrono_cron.specs.declared.text.schedule_error.ScheduleFault.{ScheduleFault}
use Rattle.chrono_cron.specs.declared.text.schedule_error.ScheduleFault.TheVariants.{Interval, OutOfRange, Reboot, TimeZone, TooFewFields, TooManyFields, UnknownNickname}
use Rattle.chrono_cron.specs.declared.text.schedule_error.ScheduleField.TheVariants.{Minute}
use Rattle.timed_cron.specs.DialectTexts.{timed_error_in}
use Rattle.timed_cron.specs.QuartzTexts.{quartz_read}
use Rattle.timed_cron.specs.RobfigTexts.{robfig_read}
use Rattle.timed_cron.specs.declared.dialect.Dialect.{Dialect}
use Rattle.timed_cron.specs.declared.dialect.Dialect.TheVariants.{Crontab, Seconds, Quartz, Robfig}
use Rattle.timed_cron.specs.declared.timed_error.TimedError.{TimedError}
use Rattle.timed_cron.specs.declared.timed_error.TimedError.TheVariants.{Seconds as InSeconds, Fields as InFields, QuestionMarks, Years as InYears}

-- the byte of an error
abbrev pub error_byte : TimedError → ℕ
error_byte (InSeconds e) = e.byte
error_byte (InFields e) = e.byte
error_byte (QuestionMarks byte) = byte
error_byte (InYears e) = e.byte

-- where a placed word ends
abbrev pub placed_word_end : ℕ × List ℕ → ℕ
placed_word_end word = word.0 + length word.1

-- what is wrong with the number of words behind the first two, which are not four
abbrev pub four_fault : ℕ → List (ℕ × List ℕ) → ℕ × ScheduleFault
four_fault end (c ∷ d ∷ e ∷ f ∷ seventh ∷ more) = (seventh.0, TooManyFields)
four_fault end others = (end, TooFewFields)

-- the error of a first word that lists no seconds: what it is in place of a field, and else what is wrong with it as a field of minutes
abbrev pub first_error : Option ScheduleFault → ℕ × List ℕ → TimedError
first_error (Some fault) word = InFields (schedule_error_at None (word.0, fault))
first_error None word = InSeconds (schedule_error_at None (field_fault Minute word))

-- the error of six fields: that of the first word if it lists no seconds, and else the error of the text behind it
abbrev pub unless_seconds : Option Bool → List ℕ → ℕ × List ℕ → TimedError
unless_seconds None text word = first_error (front_fault word.1) word
unless_seconds (Some listed) text word = InFields (error_behind (placed_word_end word) (schedule_error (drop (placed_word_end word) text)))

-- the error of words in which seconds stand in front. With fewer words than two it is that of crontab(5)'s fields
abbrev pub error_with_seconds : List ℕ → List (ℕ × List ℕ) → TimedError
error_with_seconds text [] = InFields (schedule_error text)
error_with_seconds text (word ∷ []) = InFields (schedule_error text)
error_with_seconds text (a ∷ b ∷ c ∷ d ∷ e ∷ f ∷ []) = unless_seconds (field_lists Numbers 0 59 a.1 0) text a
error_with_seconds text (a ∷ b ∷ others) = InFields (schedule_error_at None (front_or (a ∷ b ∷ others) (four_fault (length text) others)))

-- the error of a text in a dialect
unfoldable pub timed_error : Dialect → List ℕ → TimedError
timed_error Crontab text = InFields (schedule_error text)
timed_error Seconds text = error_with_seconds text (placed_words 0 text)
timed_error Quartz text = timed_error_in (quartz_read text)
timed_error Robfig text = timed_error_in (robfig_read text)

-- the line of an error
unfoldable pub timed_error_text : TimedError → List ℕ
timed_error_text (InSeconds e) = codes "second, " ++ schedule_error_text e
timed_error_text (InFields e) = schedule_error_text e
timed_error_text (QuestionMarks byte) = codes "weekday, byte " ++ (decimal byte ++ codes ": not just one field of days is ?")
timed_error_text (InYears e) = codes "year, " ++ schedule_error_text e

-- known values: the 60 of a list of seconds, and that of a list of minutes, by their places in the whole text
timed_error-second : timed_error Seconds (codes " 5,60 * * * * *") ≡ InSeconds (schedule_error_at None (3, OutOfRange))
unfolding timed_error schedule_error wrong_field text_words placed_words placed_items front_or front_fault field_fault fault_in is_item field_item_fault span_fault field_number_fault day_name_fault weekday_name_fault days_list names_by_place names_by_weekday from_end_of is_last_workday_text nearest_workday_of last_weekday_of nth_weekday_of weekdays_list field_lists item_lists step_of item_span range_of number_between spelled_number digits_of number_of_name month_of_letters weekday_of_letters natural_of
timed_error-second = refl

timed_error-minute : timed_error Seconds (codes "0 5,60 * * * *") ≡ InFields (schedule_error_at (Some Minute) (4, OutOfRange))
unfolding timed_error schedule_error wrong_field text_words placed_words placed_items front_or front_fault field_fault fault_in is_item field_item_fault span_fault field_number_fault day_name_fault weekday_name_fault days_list names_by_place names_by_weekday from_end_of is_last_workday_text nearest_workday_of last_weekday_of nth_weekday_of weekdays_list field_lists item_lists step_of item_span range_of number_between spelled_number digits_of number_of_name month_of_letters weekday_of_letters natural_of
timed_error-minute = refl

-- other numbers of words: five with seconds, six without, and seven
timed_error-five : timed_error Seconds (codes "0 0 * * *") ≡ InFields (schedule_error_at None (9, TooFewFields))
unfolding timed_error schedule_error wrong_field text_words placed_words placed_items front_or front_fault field_fault fault_in is_item field_item_fault span_fault field_number_fault day_name_fault weekday_name_fault days_list names_by_place names_by_weekday from_end_of is_last_workday_text nearest_workday_of last_weekday_of nth_weekday_of weekdays_list field_lists item_lists step_of item_span range_of number_between spelled_number digits_of number_of_name month_of_letters weekday_of_letters natural_of
timed_error-five = refl

timed_error-six : timed_error Crontab (codes "0 0 0 * * *") ≡ InFields (schedule_error_at None (10, TooManyFields))
unfolding timed_error schedule_error wrong_field text_words placed_words placed_items front_or front_fault field_fault fault_in is_item field_item_fault span_fault field_number_fault day_name_fault weekday_name_fault days_list names_by_place names_by_weekday from_end_of is_last_workday_text nearest_workday_of last_weekday_of nth_weekday_of weekdays_list field_lists item_lists step_of item_span range_of number_between spelled_number digits_of number_of_name month_of_letters weekday_of_letters natural_of
timed_error-six = refl

timed_error-seven : timed_error Seconds (codes "0 0 0 * * * 7") ≡ InFields (schedule_error_at None (12, TooManyFields))
unfolding timed_error schedule_error wrong_field text_words placed_words placed_items front_or front_fault field_fault fault_in is_item field_item_fault span_fault field_number_fault day_name_fault weekday_name_fault days_list names_by_place names_by_weekday from_end_of is_last_workday_text nearest_workday_of last_weekday_of nth_weekday_of weekdays_list field_lists item_lists step_of item_span range_of number_between spelled_number digits_of number_of_name month_of_letters weekday_of_letters natural_of
timed_error-seven = refl

-- a nickname behind seconds, one that is unknown, an interval, and a time zone in front
timed_error-nickname : timed_error Seconds (codes "0 @daily") ≡ InFields (schedule_error_at None (8, TooFewFields))
unfolding timed_error schedule_error wrong_field text_words placed_words placed_items front_or front_fault field_fault fault_in is_item field_item_fault span_fault field_number_fault day_name_fault weekday_name_fault days_list names_by_place names_by_weekday from_end_of is_last_workday_text nearest_workday_of last_weekday_of nth_weekday_of weekdays_list field_lists item_lists step_of item_span range_of number_between spelled_number digits_of number_of_name month_of_letters weekday_of_letters natural_of
timed_error-nickname = refl

timed_error-unknown : timed_error Seconds (codes " @dayly") ≡ InFields (schedule_error_at None (1, UnknownNickname))
unfolding timed_error schedule_error wrong_field text_words placed_words placed_items front_or front_fault field_fault fault_in is_item field_item_fault span_fault field_number_fault day_name_fault weekday_name_fault days_list names_by_place names_by_weekday from_end_of is_last_workday_text nearest_workday_of last_weekday_of nth_weekday_of weekdays_list field_lists item_lists step_of item_span range_of number_between spelled_number digits_of number_of_name month_of_letters weekday_of_letters natural_of
timed_error-unknown = refl

timed_error-interval : timed_error Seconds (codes "@every 5m") ≡ InFields (schedule_error_at None (0, Interval))
unfolding timed_error schedule_error wrong_field text_words placed_words placed_items front_or front_fault field_fault fault_in is_item field_item_fault span_fault field_number_fault day_name_fault weekday_name_fault days_list names_by_place names_by_weekday from_end_of is_last_workday_text nearest_workday_of last_weekday_of nth_weekday_of weekdays_list field_lists item_lists step_of item_span range_of number_between spelled_number digits_of number_of_name month_of_letters weekday_of_letters natural_of
timed_error-interval = refl

timed_error-zone : timed_error Seconds (codes "TZ=UTC 0 0 0 * * *") ≡ InFields (schedule_error_at None (0, TimeZone))
unfolding timed_error schedule_error wrong_field text_words placed_words placed_items front_or front_fault field_fault fault_in is_item field_item_fault span_fault field_number_fault day_name_fault weekday_name_fault days_list names_by_place names_by_weekday from_end_of is_last_workday_text nearest_workday_of last_weekday_of nth_weekday_of weekdays_list field_lists item_lists step_of item_span range_of number_between spelled_number digits_of number_of_name month_of_letters weekday_of_letters natural_of
timed_error-zone = refl

-- the start of a machine, and each of these in front of five words
timed_error-reboot : timed_error Seconds (codes "@Reboot") ≡ InFields (schedule_error_at None (0, Reboot))
unfolding timed_error schedule_error wrong_field text_words placed_words placed_items front_or front_fault field_fault fault_in is_item field_item_fault span_fault field_number_fault day_name_fault weekday_name_fault days_list names_by_place names_by_weekday from_end_of is_last_workday_text nearest_workday_of last_weekday_of nth_weekday_of weekdays_list field_lists item_lists step_of item_span range_of number_between spelled_number digits_of number_of_name month_of_letters weekday_of_letters natural_of
timed_error-reboot = refl

timed_error-six_reboot : timed_error Seconds (codes "@reboot 0 0 * * *") ≡ InFields (schedule_error_at None (0, Reboot))
unfolding timed_error schedule_error wrong_field text_words placed_words placed_items front_or front_fault field_fault fault_in is_item field_item_fault span_fault field_number_fault day_name_fault weekday_name_fault days_list names_by_place names_by_weekday from_end_of is_last_workday_text nearest_workday_of last_weekday_of nth_weekday_of weekdays_list field_lists item_lists step_of item_span range_of number_between spelled_number digits_of number_of_name month_of_letters weekday_of_letters natural_of
timed_error-six_reboot = refl

timed_error-six_interval : timed_error Seconds (codes " @every 5 0 * * *") ≡ InFields (schedule_error_at None (1, Interval))
unfolding timed_error schedule_error wrong_field text_words placed_words placed_items front_or front_fault field_fault fault_in is_item field_item_fault span_fault field_number_fault day_name_fault weekday_name_fault days_list names_by_place names_by_weekday from_end_of is_last_workday_text nearest_workday_of last_weekday_of nth_weekday_of weekdays_list field_lists item_lists step_of item_span range_of number_between spelled_number digits_of number_of_name month_of_letters weekday_of_letters natural_of
timed_error-six_interval = refl

timed_error-six_zone : timed_error Seconds (codes "TZ=UTC 0 0 * * *") ≡ InFields (schedule_error_at None (0, TimeZone))
unfolding timed_error schedule_error wrong_field text_words placed_words placed_items front_or front_fault field_fault fault_in is_item field_item_fault span_fault field_number_fault day_name_fault weekday_name_fault days_list names_by_place names_by_weekday from_end_of is_last_workday_text nearest_workday_of last_weekday_of nth_weekday_of weekdays_list field_lists item_lists step_of item_span range_of number_between spelled_number digits_of number_of_name month_of_letters weekday_of_letters natural_of
timed_error-six_zone = refl
