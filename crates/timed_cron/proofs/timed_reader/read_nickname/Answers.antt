use Rattle.std.proofs.Common.{◌≡◌, ℕ, ◌≤◌, List, length, inl, inr, ◌∙◌, sym}
use Rattle.chrono_cron.specs.PlacedWords.{placed_words}
use Rattle.chrono_cron.specs.ScheduleErrors.{schedule_error}
use Rattle.timed_cron.specs.TimedErrors.{timed_error}
use Rattle.timed_cron.specs.TimedTexts.{IsAtSecondZero, IsTimedText}
use Rattle.timed_cron.specs.declared.dialect.Dialect.TheVariants.{Seconds}
use Rattle.timed_cron.specs.declared.timed_error.TimedError.TheVariants.{Fields as InFields}
use Rattle.timed_cron.specs.declared.timed_schedule.TimedSchedule.{TimedSchedule}
use Rattle.timed_cron.proofs.SixFields.{few_words, for_err, for_ok, nickname_is, short_error}
use Rattle.timed_cron.proofs.timed_reader.read_nickname.Goals as goal

pub returns-clause-read : goal.returns-clause-read
returns-clause-read c =
    for_ok (IsAtSecondZero c.args.text.now) (IsTimedText Seconds c.args.text.now) c.read_at_second_zero.result
    (λ s is. inr (nickname_is c.args.text.now s c.requires is)) c.read_at_second_zero.ensures.read

only_nickname : (text : List ℕ) (t s : TimedSchedule) → length (placed_words 0 text) ≤ 1 → ((u : TimedSchedule) → IsAtSecondZero text u → t ≡ u) → IsTimedText Seconds text s → t ≡ s
only_nickname text t s few only (inl six) = absurd (few_words text s few six)
only_nickname text t s few only (inr nickname) = only s nickname.zero

pub returns-clause-only : goal.returns-clause-only
returns-clause-only c =
    for_ok (λ t. (s : TimedSchedule) → IsAtSecondZero c.args.text.now s → t ≡ s) (λ t. (s : TimedSchedule) → IsTimedText Seconds c.args.text.now s → t ≡ s) c.read_at_second_zero.result
    (λ t only s is. only_nickname c.args.text.now t s c.requires only is) c.read_at_second_zero.ensures.only

no_nickname : (text : List ℕ) (s : TimedSchedule) → length (placed_words 0 text) ≤ 1 → ((u : TimedSchedule) → IsAtSecondZero text u → ⊥) → IsTimedText Seconds text s → ⊥
no_nickname text s few none (inl six) = few_words text s few six
no_nickname text s few none (inr nickname) = none s nickname.zero

pub returns-clause-found : goal.returns-clause-found
returns-clause-found c =
    for_err (λ _. (s : TimedSchedule) → ¬ IsAtSecondZero c.args.text.now s) (λ _. (s : TimedSchedule) → ¬ IsTimedText Seconds c.args.text.now s) c.read_at_second_zero.result
    (λ e none s is. no_nickname c.args.text.now s c.requires none is) c.read_at_second_zero.ensures.found

pub returns-clause-error : goal.returns-clause-error
unfolding timed_error
returns-clause-error c =
    for_err (λ e. e ≡ InFields (schedule_error c.args.text.now)) (λ e. e ≡ timed_error Seconds c.args.text.now) c.read_at_second_zero.result
    (λ e is. is ∙ sym (short_error c.args.text.now (placed_words 0 c.args.text.now) c.requires)) c.read_at_second_zero.ensures.error
