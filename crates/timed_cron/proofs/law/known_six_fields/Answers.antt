use Rattle.std.proofs.Common.{◌≡◌, ◌||◌, ℕ, Bool, true, false, List, [], ◌∷◌, length, drop, get_or, ap, sym, ◌∙◌, arith, refl, Some}
use Rattle.std.specs.Prelude.{codes}
use Rattle.std.proofs.lemmas.Option.{same_Some}
use Rattle.chrono_datetime.specs.Names.{month_of_letters, weekday_of_letters}
use Rattle.chrono_text.specs.Numbers.{digits_of, natural_of}
use Rattle.chrono_sets.specs.FiniteSets.{has}
use Rattle.chrono_cron.specs.FieldTexts.{field_lists, item_lists, item_span, number_between, number_of_name, range_of, spelled_number, step_of}
use Rattle.chrono_cron.specs.ScheduleTexts.{begins_with_star, fields_of, spelled_out, text_words}
use Rattle.chrono_cron.specs.declared.text.number_names.Names.TheVariants.{Numbers}
use Rattle.timed_cron.specs.TimedTexts.{IsSixFieldText}
use Rattle.timed_cron.specs.declared.timed_schedule.TimedSchedule.{TimedSchedule}
use Rattle.timed_cron.proofs.law.known_six_fields.Goals as goal

abbrev word : ℕ → List (List ℕ) → List ℕ
word n words = get_or words n []

abbrev starred_time : List (List ℕ) → Bool
starred_time words = begins_with_star (word 0 words) || begins_with_star (word 1 words)

-- the words of the text
abbrev five : List (List ℕ)
five = codes "30" ∷ codes "4" ∷ codes "*" ∷ codes "*" ∷ codes "5" ∷ []

text_is : text_words (codes "*/20 30 4 * * 5") ≡ codes "*/20" ∷ five
unfolding text_words
text_is = refl

second_is : (s : TimedSchedule) (is : IsSixFieldText (codes "*/20 30 4 * * 5") s) → codes "*/20" ≡ is.second
second_is s is = ap (word 0) (sym text_is ∙ is.written)

fields_are : (s : TimedSchedule) (is : IsSixFieldText (codes "*/20 30 4 * * 5") s)
    → five ≡ is.schedule.minute ∷ is.schedule.hour ∷ is.schedule.day ∷ is.schedule.month ∷ is.schedule.weekday ∷ []
unfolding fields_of
fields_are s is = ap spelled_out (ap (drop 1) (sym text_is ∙ is.written)) ∙ is.schedule.written

lists-forty : field_lists Numbers 0 59 (codes "*/20") 40 ≡ Some true
unfolding field_lists item_lists step_of item_span range_of number_between spelled_number digits_of number_of_name month_of_letters weekday_of_letters natural_of
lists-forty = refl

lists-thirty : field_lists Numbers 0 59 (codes "*/20") 30 ≡ Some false
unfolding field_lists item_lists step_of item_span range_of number_between spelled_number digits_of number_of_name month_of_letters weekday_of_letters natural_of
lists-thirty = refl

lists-minute : field_lists Numbers 0 59 (codes "30") 30 ≡ Some true
unfolding field_lists item_lists step_of item_span range_of number_between spelled_number digits_of number_of_name month_of_letters weekday_of_letters natural_of
lists-minute = refl

pub returns-clause-listed : goal.returns-clause-listed
returns-clause-listed c = λ s is.
    sym (same_Some true (has s.seconds 40) (sym lists-forty ∙ ap (λ text. field_lists Numbers 0 59 text 40) (second_is s is) ∙ is.seconds 40))

pub returns-clause-other : goal.returns-clause-other
returns-clause-other c = λ s is.
    sym (same_Some false (has s.seconds 30) (sym lists-thirty ∙ ap (λ text. field_lists Numbers 0 59 text 30) (second_is s is) ∙ is.seconds 30))

pub returns-clause-minute : goal.returns-clause-minute
returns-clause-minute c = λ s is.
    sym (same_Some true (has s.schedule.sets.minutes 30) (sym lists-minute ∙ ap (λ text. field_lists Numbers 0 59 text 30) (ap (word 0) (fields_are s is)) ∙ is.schedule.minutes 30))

none_starred : starred_time five ≡ false
unfolding begins_with_star
none_starred = refl

pub returns-clause-fixed : goal.returns-clause-fixed
returns-clause-fixed c = λ s is. sym (sym none_starred ∙ ap starred_time (fields_are s is) ∙ is.schedule.follows_clock)

pub returns-clause-years : goal.returns-clause-years
returns-clause-years c = λ s is. is.years

five_long : length (text_words (codes "30 4 * * 5")) ≡ 5
unfolding text_words
five_long = refl

pub returns-clause-five_words : goal.returns-clause-five_words
returns-clause-five_words c = λ s is. absurd (omega (arith, five_long, ap length is.written, is.five))
