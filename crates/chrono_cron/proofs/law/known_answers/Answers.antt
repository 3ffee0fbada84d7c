use Rattle.std.proofs.Common.{◌≡◌, ℕ, List, [], ◌∷◌, length, Bool, Some, Result, Ok, Err, ap, arith, codes, ◌∙◌}
use Rattle.std.proofs.lemmas.Bool.{false≢true}
use Rattle.std.specs.Option.{is_some}
use Rattle.chrono_datetime.specs.Names.{month_of_letters, weekday_of_letters}
use Rattle.chrono_text.specs.Numbers.{digits_of, natural_of}
use Rattle.chrono_cron.specs.FieldTexts.{field_lists, item_lists, item_span, number_between, number_of_name, range_of, spelled_number, step_of}
use Rattle.chrono_cron.specs.PlacedWords.{placed_items, placed_words}
use Rattle.chrono_cron.specs.ScheduleErrors.{IsScheduleRead, day_name_fault, fault_in, field_fault, field_item_fault, field_number_fault, front_fault, front_or, is_item, schedule_error, span_fault, weekday_name_fault, wrong_field}
use Rattle.chrono_cron.specs.ScheduleTexts.{days_list, fields_of, from_end_of, is_last_workday_text, last_weekday_of, names_by_place, names_by_weekday, nearest_workday_of, nth_weekday_of, text_words, weekdays_list}
use Rattle.chrono_cron.specs.declared.schedule.Schedule.{Schedule}
use Rattle.chrono_cron.specs.declared.text.number_names.Names.TheVariants.{Numbers}
use Rattle.chrono_cron.specs.declared.text.schedule_error.ScheduleError.{ScheduleError}
use Rattle.chrono_cron.proofs.law.known_answers.Goals as goal

-- the first of some texts, or none
first_of : List (List ℕ) → List ℕ
first_of [] = []
first_of (text ∷ texts) = text

-- a minute past 59 makes no list
no_minutes : (minute : List ℕ) (listed : Bool) → codes "5,60" ≡ minute → field_lists Numbers 0 59 minute 0 ≡ Some listed → ⊥
unfolding field_lists item_lists item_span range_of number_between spelled_number digits_of number_of_name natural_of step_of
no_minutes minute listed is lists = false≢true (ap is_some (ap (λ text. field_lists Numbers 0 59 text 0) is ∙ lists))

minute_answer : (result : Result Schedule ScheduleError) → IsScheduleRead (codes "5,60 * * * *") result → result ≡ Err (schedule_error (codes "5,60 * * * *"))
unfolding first_of fields_of text_words
minute_answer (Ok schedule) is = absurd (no_minutes is.read.minute _ (ap first_of is.read.written) (is.read.minutes 0))
minute_answer (Err error) is = ap Err is.error

pub returns-clause-minute : goal.returns-clause-minute
unfolding schedule_error wrong_field text_words placed_words placed_items field_fault fault_in is_item field_item_fault span_fault field_number_fault day_name_fault weekday_name_fault days_list names_by_place names_by_weekday from_end_of is_last_workday_text nearest_workday_of last_weekday_of nth_weekday_of weekdays_list field_lists item_lists step_of item_span range_of number_between spelled_number digits_of number_of_name month_of_letters weekday_of_letters natural_of
returns-clause-minute c = λ result is. minute_answer result is

four_answer : (result : Result Schedule ScheduleError) → IsScheduleRead (codes "* * * *") result → result ≡ Err (schedule_error (codes "* * * *"))
unfolding fields_of text_words
four_answer (Ok schedule) is = absurd (omega (arith, ap length is.read.written))
four_answer (Err error) is = ap Err is.error

pub returns-clause-four_fields : goal.returns-clause-four_fields
unfolding schedule_error wrong_field text_words placed_words front_or front_fault
returns-clause-four_fields c = λ result is. four_answer result is
