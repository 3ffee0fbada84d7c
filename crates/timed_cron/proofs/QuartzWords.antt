-- The words of a text of Quartz.
use Rattle.std.proofs.Common.{◌≡◌, ℕ, ◌*◌, ◌+◌, ◌-◌, List, [], ◌∷◌, Option, Some, None, Err, refl, sym, ap}
use Rattle.std.specs.Option.{option_map, option_and_then}
use Rattle.std.proofs.Math.Path.{subst}
use Rattle.chrono_text.specs.Numbers.{digits_of, natural_of}
use Rattle.chrono_cron.specs.ScheduleErrors.{front_fault, front_or, schedule_error_at}
use Rattle.chrono_cron.specs.declared.text.schedule_error.ScheduleFault.{ScheduleFault}
use Rattle.timed_cron.specs.DialectFields.{named_number, field_number, number_written}
use Rattle.timed_cron.specs.Private.{year_words}
use Rattle.timed_cron.specs.DialectTexts.{unless_in_front}
use Rattle.timed_cron.specs.QuartzTexts.{fields_read, plain_form, words_read}
use Rattle.timed_cron.specs.declared.timed_error.TimedError.TheVariants.{Fields as InFields}

-- words of another number, by what they are
pub told : (end : ℕ) (words others : List (ℕ × List ℕ)) (count : ℕ × ScheduleFault) → words ≡ others
    → words_read end others ≡ Err (InFields (schedule_error_at None (front_or others count))) → words_read end words ≡ Err (InFields (schedule_error_at None (front_or words count)))
told end words others count e is = subst (λ l. words_read end l ≡ Err (InFields (schedule_error_at None (front_or l count)))) (sym e) is

-- six words, and that of the years
pub words_by : (end : ℕ) (words : List (ℕ × List ℕ)) (a b c d e f : ℕ × List ℕ) (g : Option (ℕ × List ℕ)) → words ≡ a ∷ b ∷ c ∷ d ∷ e ∷ f ∷ year_words g
    → words_read end words ≡ unless_in_front (front_fault a.1) a.0 (fields_read a b c d e f g)
words_by end words a b c d e f None is = ap (words_read end) is
words_by end words a b c d e f (Some g) is = ap (words_read end) is

-- where no `#` stands, no number stands behind it
pub none_for : (o : Option ℕ) (text : List ℕ) → text ≡ [] → option_and_then (λ d. option_map (λ k. 7 * (k - 1) + (d - 1)) (field_number (plain_form 1 5) text)) o ≡ None
unfolding field_number number_written named_number digits_of natural_of
none_for None text e = refl
none_for (Some d) text e = ap (λ t. option_map (λ k. 7 * (k - 1) + (d - 1)) (field_number (plain_form 1 5) t)) e
