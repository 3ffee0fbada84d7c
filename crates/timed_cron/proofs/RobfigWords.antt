-- The words of a text of robfig/cron.
use Rattle.std.proofs.Common.{◌≡◌, ◌≢◌, ℕ, List, [], ◌∷◌, length, Option, None, Err, refl, sym, ap, ◌∙◌}
use Rattle.std.specs.Option.{ok_or}
use Rattle.std.proofs.Math.Path.{subst}
use Rattle.chrono_cron.specs.PlacedWords.{placed_words}
use Rattle.chrono_cron.specs.ScheduleErrors.{count_fault, schedule_error_at, words_fault}
use Rattle.chrono_cron.specs.ScheduleTexts.{nickname_meaning}
use Rattle.timed_cron.specs.Private.{IsOtherCount}
use Rattle.timed_cron.specs.RobfigTexts.{robfig_meaning_read, robfig_words_read}
use Rattle.timed_cron.specs.declared.timed_error.TimedError.TheVariants.{Fields as InFields}
use Rattle.timed_cron.specs.declared.timed_schedule.TimedSchedule.{TimedSchedule}

-- ---- words of another number than five

pub other_count : (text : List ℕ) (others : List (ℕ × List ℕ)) → placed_words 0 text ≡ others → (length others ≡ 5 → ⊥) → IsOtherCount text (count_fault (length text) others)
other_count text others same other =
    record {
      told = ap (count_fault (length text)) (sym same);
      others = λ a b c d e five. other (ap length (sym same ∙ five));
    }

pub no_fields : (end : ℕ) (words : List (ℕ × List ℕ)) → ((a b c d e : ℕ × List ℕ) → words ≢ a ∷ b ∷ c ∷ d ∷ e ∷ []) → ((w : ℕ × List ℕ) → words ≢ w ∷ [])
    → robfig_words_read end words ≡ Err (InFields (schedule_error_at None (words_fault end words)))
no_fields end [] five alone = refl
no_fields end (a ∷ []) five alone = absurd (alone a refl)
no_fields end (a ∷ b ∷ []) five alone = refl
no_fields end (a ∷ b ∷ c ∷ []) five alone = refl
no_fields end (a ∷ b ∷ c ∷ d ∷ []) five alone = refl
no_fields end (a ∷ b ∷ c ∷ d ∷ e ∷ []) five alone = absurd (five a b c d e refl)
no_fields end (a ∷ b ∷ c ∷ d ∷ e ∷ f ∷ more) five alone = refl

-- ---- a word alone

pub no_meaning : (words : List (ℕ × List ℕ)) → ((a b c d e : ℕ × List ℕ) → words ≢ a ∷ b ∷ c ∷ d ∷ e ∷ []) → robfig_meaning_read words ≡ None
no_meaning [] five = refl
no_meaning (a ∷ []) five = refl
no_meaning (a ∷ b ∷ []) five = refl
no_meaning (a ∷ b ∷ c ∷ []) five = refl
no_meaning (a ∷ b ∷ c ∷ d ∷ []) five = refl
no_meaning (a ∷ b ∷ c ∷ d ∷ e ∷ []) five = absurd (five a b c d e refl)
no_meaning (a ∷ b ∷ c ∷ d ∷ e ∷ f ∷ more) five = refl

-- the text of its word alone, by what the word stands for
pub by_meaning : (end : ℕ) (words : List (ℕ × List ℕ)) (word : ℕ × List ℕ) (text : List ℕ) (meaning : Option TimedSchedule) → words ≡ word ∷ [] → text ≡ nickname_meaning word.1
    → meaning ≡ robfig_meaning_read (placed_words 0 text) → robfig_words_read end words ≡ ok_or meaning (InFields (schedule_error_at None (words_fault end words)))
by_meaning end words word text meaning alone is_text is_meaning =
    subst (λ l. robfig_words_read end l ≡ ok_or meaning (InFields (schedule_error_at None (words_fault end l)))) (sym alone)
    (ap (λ m. ok_or m (InFields (schedule_error_at None (words_fault end (word ∷ []))))) (ap (λ t. robfig_meaning_read (placed_words 0 t)) (sym is_text) ∙ sym is_meaning))
