-- The first field of a text that cannot be read, and the error of a text.
use Rattle.std.proofs.Common.{◌≡◌, ◌∷◌, ℕ, Bool, List, [], length, drop, Option, Some, None, refl, sym, ap, ◌∙◌}
use Rattle.std.specs.Prelude.{map}
use Rattle.std.proofs.lemmas.Option.{none-some}
use Rattle.chrono_sets.specs.FiniteSets.{has}
use Rattle.chrono_cron.specs.declared.text.schedule_error.ScheduleField.{ScheduleField}
use Rattle.chrono_cron.specs.declared.text.schedule_error.ScheduleField.TheVariants.{Minute, Hour, Day, Month, Weekday}
use Rattle.chrono_cron.specs.declared.text.number_names.Names.TheVariants.{Numbers, Months}
use Rattle.chrono_cron.specs.declared.field_sets.FieldSets.{FieldSets}
use Rattle.chrono_cron.specs.FieldTexts.{field_lists}
use Rattle.chrono_cron.specs.PlacedWords.{first_word, placed_words}
use Rattle.chrono_cron.specs.ScheduleTexts.{IsScheduleText, days_list, fields_of, weekdays_list}
use Rattle.chrono_cron.specs.ScheduleErrors.{schedule_error_at, error_of, field_fault, first_wrong, place_of_field, schedule_error, unless_read, words_fault, wrong_field}
use Rattle.chrono_cron.specs.declared.text.schedule_error.ScheduleFault.{ScheduleFault}
use Rattle.chrono_cron.proofs.TextWords.{AreNotFive, words_of}

-- words that are not five
first_wrong-others : (words : List (ℕ × List ℕ)) → AreNotFive words → first_wrong (map (λ word. word.1) words) ≡ None
first_wrong-others [] others = refl
first_wrong-others (a ∷ []) others = refl
first_wrong-others (a ∷ b ∷ []) others = refl
first_wrong-others (a ∷ b ∷ c ∷ []) others = refl
first_wrong-others (a ∷ b ∷ c ∷ d ∷ []) others = refl
first_wrong-others (a ∷ b ∷ c ∷ d ∷ e ∷ []) others = absurd (others a b c d e refl)
first_wrong-others (a ∷ b ∷ c ∷ d ∷ e ∷ f ∷ more) others = refl

pub wrong-others : (text : List ℕ) → AreNotFive (placed_words 0 text) → wrong_field text ≡ None
unfolding wrong_field
wrong-others text others = ap first_wrong (words_of 0 text (placed_words 0 text) refl) ∙ first_wrong-others (placed_words 0 text) others

pub wrong-five : (text : List ℕ) (a b c d e : ℕ × List ℕ) (field : ScheduleField) → placed_words 0 text ≡ a ∷ b ∷ c ∷ d ∷ e ∷ []
    → first_wrong (a.1 ∷ b.1 ∷ c.1 ∷ d.1 ∷ e.1 ∷ []) ≡ Some field → wrong_field text ≡ Some field
unfolding wrong_field
wrong-five text a b c d e field all wrong = ap first_wrong (words_of 0 text (a ∷ b ∷ c ∷ d ∷ e ∷ []) all) ∙ wrong

-- of five fields the first that cannot be read
unread : (listed : Option Bool) (field : ScheduleField) (later : Option ScheduleField) → listed ≡ None → unless_read listed field later ≡ Some field
unread listed field later e = ap (λ o. unless_read o field later) e

was_read : (listed : Option Bool) (field : ScheduleField) (later : Option ScheduleField) (b : Bool) → listed ≡ Some b → unless_read listed field later ≡ later
was_read listed field later b e = ap (λ o. unless_read o field later) e

pub wrong-minute : (minute hour day month weekday : List ℕ) → field_lists Numbers 0 59 minute 0 ≡ None → first_wrong (minute ∷ hour ∷ day ∷ month ∷ weekday ∷ []) ≡ Some Minute
wrong-minute minute hour day month weekday m = unread _ Minute _ m

pub wrong-hour : (minute hour day month weekday : List ℕ) (a : Bool) → field_lists Numbers 0 59 minute 0 ≡ Some a → field_lists Numbers 0 23 hour 0 ≡ None
    → first_wrong (minute ∷ hour ∷ day ∷ month ∷ weekday ∷ []) ≡ Some Hour
wrong-hour minute hour day month weekday a m h = was_read _ Minute _ a m ∙ unread _ Hour _ h

pub wrong-day : (minute hour day month weekday : List ℕ) (a b : Bool) → field_lists Numbers 0 59 minute 0 ≡ Some a → field_lists Numbers 0 23 hour 0 ≡ Some b
    → days_list day 0 ≡ None → first_wrong (minute ∷ hour ∷ day ∷ month ∷ weekday ∷ []) ≡ Some Day
wrong-day minute hour day month weekday a b m h d = was_read _ Minute _ a m ∙ was_read _ Hour _ b h ∙ unread _ Day _ d

pub wrong-month : (minute hour day month weekday : List ℕ) (a b c : Bool) → field_lists Numbers 0 59 minute 0 ≡ Some a → field_lists Numbers 0 23 hour 0 ≡ Some b
    → days_list day 0 ≡ Some c → field_lists Months 1 12 month 0 ≡ None → first_wrong (minute ∷ hour ∷ day ∷ month ∷ weekday ∷ []) ≡ Some Month
wrong-month minute hour day month weekday a b c m h d n = was_read _ Minute _ a m ∙ was_read _ Hour _ b h ∙ was_read _ Day _ c d ∙ unread _ Month _ n

pub wrong-weekday : (minute hour day month weekday : List ℕ) (a b c d : Bool) → field_lists Numbers 0 59 minute 0 ≡ Some a → field_lists Numbers 0 23 hour 0 ≡ Some b
    → days_list day 0 ≡ Some c → field_lists Months 1 12 month 0 ≡ Some d → weekdays_list weekday 0 ≡ None → first_wrong (minute ∷ hour ∷ day ∷ month ∷ weekday ∷ []) ≡ Some Weekday
wrong-weekday minute hour day month weekday a b c d m h f n w =
    was_read _ Minute _ a m ∙ was_read _ Hour _ b h ∙ was_read _ Day _ c f ∙ was_read _ Month _ d n ∙ unread _ Weekday _ w

-- a text with a field that cannot be read is no schedule's
first_wrong-none : (text : List ℕ) (s : FieldSets) → IsScheduleText text s → first_wrong (fields_of text) ≡ None
first_wrong-none text s is =
    ap first_wrong is.written ∙ was_read _ Minute _ (has s.minutes 0) (is.minutes 0) ∙ was_read _ Hour _ (has s.hours 0) (is.hours 0)
    ∙ was_read _ Day _ (has s.days 0) (is.days 0) ∙ was_read _ Month _ (has s.months 0) (is.months 0) ∙ was_read _ Weekday _ (has s.weekdays 0) (is.weekdays 0)

pub none-wrong : (text : List ℕ) (fields : List (List ℕ)) (s : FieldSets) (field : ScheduleField) → fields_of text ≡ fields → first_wrong fields ≡ Some field → IsScheduleText text s → ⊥
none-wrong text fields s field e wrong is = none-some field (sym (first_wrong-none text s is) ∙ (ap first_wrong e ∙ wrong))

-- the error of a text
pub error-others : (text : List ℕ) (fault : ℕ × ScheduleFault) → AreNotFive (placed_words 0 text) → fault ≡ words_fault (length text) (placed_words 0 text) → schedule_error_at None fault ≡ schedule_error text
unfolding schedule_error
error-others text fault others e = ap (schedule_error_at None) e ∙ sym (ap (error_of (length text) (placed_words 0 text)) (wrong-others text others))

pub error-five : (text : List ℕ) (words : List (ℕ × List ℕ)) (field : ScheduleField) (word : ℕ × List ℕ) → placed_words 0 text ≡ words → wrong_field text ≡ Some field
    → first_word (drop (place_of_field field) words) ≡ word → schedule_error_at (Some field) (field_fault field word) ≡ schedule_error text
unfolding schedule_error
error-five text words field word e wrong is =
    ap (λ w. schedule_error_at (Some field) (field_fault field w)) (sym is)
    ∙ ap (λ ws. error_of (length text) ws (Some field)) (sym e)
    ∙ ap (error_of (length text) (placed_words 0 text)) (sym wrong)
