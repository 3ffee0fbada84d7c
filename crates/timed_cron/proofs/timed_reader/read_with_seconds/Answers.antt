use Rattle.std.proofs.Common.{◌≡◌, ℕ, List, ◌∷◌, length, drop, arith, inl, inr, ap, ◌∙◌, sym, None}
use Rattle.chrono_cron.specs.FieldTexts.{field_lists}
use Rattle.chrono_cron.specs.PlacedWords.{placed_words}
use Rattle.chrono_cron.specs.ScheduleErrors.{front_fault, front_or, schedule_error_at, told_or}
use Rattle.chrono_cron.specs.declared.text.number_names.Names.TheVariants.{Numbers}
use Rattle.timed_cron.specs.Private.{IsWordAt}
use Rattle.timed_cron.specs.TimedErrors.{error_with_seconds, four_fault, timed_error, unless_seconds}
use Rattle.timed_cron.specs.TimedTexts.{IsSixFieldText, IsTimedText}
use Rattle.timed_cron.specs.declared.dialect.Dialect.TheVariants.{Seconds}
use Rattle.timed_cron.specs.declared.timed_error.TimedError.TheVariants.{Fields as InFields}
use Rattle.timed_cron.specs.declared.timed_schedule.TimedSchedule.{TimedSchedule}
use Rattle.timed_cron.proofs.SixFields.{error_of_number, for_err, for_ok, more_than_one, other_number, second_word, six_words, told_in_front}
use Rattle.timed_cron.proofs.TextWords.{in_front, none_at, word_at}
use Rattle.timed_cron.proofs.timed_reader.read_with_seconds.Goals as goal

pub read_nickname-requires : goal.read_nickname-requires
read_nickname-requires c = omega (arith, ap length (none_at c.args.text.now 0 (omega arith) c.in_default.ensures.none))

pub read_nickname-requires-in_default-next_word : goal.read_nickname-requires-in_default-next_word
read_nickname-requires-in_default-next_word c =
    let text = c.args.text.now in
    let second = c.in-Some.second in
    let first = c.in-Some.ensures.some in
    omega (arith, ap length (in_front (second_word text second.place second.end) (word_at text 0 second.place second.end first) (none_at text second.end first.within c.in_default-next_word.ensures.none)))

-- of a text of two words or more, only six fields are a reading
only_six : (text : List ℕ) (t s : TimedSchedule) (a b : ℕ × List ℕ) (others : List (ℕ × List ℕ)) → placed_words 0 text ≡ a ∷ b ∷ others
    → ((u : TimedSchedule) → IsSixFieldText text u → t ≡ u) → IsTimedText Seconds text s → t ≡ s
only_six text t s a b others e only (inl six) = only s six
only_six text t s a b others e only (inr nickname) = absurd (more_than_one text s a b others e nickname)

no_six : (text : List ℕ) (s : TimedSchedule) (a b : ℕ × List ℕ) (others : List (ℕ × List ℕ)) → placed_words 0 text ≡ a ∷ b ∷ others
    → ((u : TimedSchedule) → IsSixFieldText text u → ⊥) → IsTimedText Seconds text s → ⊥
no_six text s a b others e none (inl six) = none s six
no_six text s a b others e none (inr nickname) = more_than_one text s a b others e nickname

two_words : (text : List ℕ) (p e q f : ℕ) → IsWordAt text 0 p e → IsWordAt text e q f → placed_words 0 text ≡ second_word text p e ∷ second_word text q f ∷ placed_words f (drop f text)
two_words text p e q f first second = in_front (second_word text p e) (word_at text 0 p e first) (word_at text e q f second)

pub returns-in-Ok-clause-only : goal.returns-in-Ok-clause-only
returns-in-Ok-clause-only c =
    let text = c.args.text.now in
    let second = c.in-Some.second in
    let minute = c.in-Some-next_word.minute in
    let words = two_words text second.place second.end minute.place minute.end c.in-Some.ensures.some c.in-Some-next_word.ensures.some in
    for_ok (λ t. (s : TimedSchedule) → IsSixFieldText text s → t ≡ s) (λ t. (s : TimedSchedule) → IsTimedText Seconds text s → t ≡ s) c.read_six_fields.result
    (λ t only s is. only_six text t s _ _ _ words only is) c.read_six_fields.ensures.only

pub returns-in-Ok-clause-found : goal.returns-in-Ok-clause-found
returns-in-Ok-clause-found c =
    let text = c.args.text.now in
    let second = c.in-Some.second in
    let minute = c.in-Some-next_word.minute in
    let words = two_words text second.place second.end minute.place minute.end c.in-Some.ensures.some c.in-Some-next_word.ensures.some in
    for_err (λ _. (s : TimedSchedule) → ¬ IsSixFieldText text s) (λ _. (s : TimedSchedule) → ¬ IsTimedText Seconds text s) c.read_six_fields.result
    (λ e none s is. no_six text s _ _ _ words none is) c.read_six_fields.ensures.found

pub returns-in-Ok-clause-error : goal.returns-in-Ok-clause-error
unfolding timed_error
returns-in-Ok-clause-error c =
    let text = c.args.text.now in
    let second = c.in-Some.second in
    let minute = c.in-Some-next_word.minute in
    let word = second_word text second.place second.end in
    let words = six_words text second.place second.end minute.place minute.end c.in-Ok.month_end c.in-Some.ensures.some c.in-Some-next_word.ensures.some c.in-Ok.ensures.four in
    for_err (λ e. e ≡ unless_seconds (field_lists Numbers 0 59 word.1 0) text word) (λ e. e ≡ timed_error Seconds text) c.read_six_fields.result
    (λ e is. is ∙ sym (ap (error_with_seconds text) words)) c.read_six_fields.ensures.error

pub returns-in-Err-clause-found : goal.returns-in-Err-clause-found
returns-in-Err-clause-found c = λ s is.
    let text = c.args.text.now in
    let second = c.in-Some.second in
    let minute = c.in-Some-next_word.minute in
    let words = two_words text second.place second.end minute.place minute.end c.in-Some.ensures.some c.in-Some-next_word.ensures.some in
    no_six text s _ _ _ words (λ u six. other_number text u _ _ _ words c.in-Err.ensures.others six) is

pub returns-in-Err-clause-error : goal.returns-in-Err-clause-error
unfolding timed_error
returns-in-Err-clause-error c =
    let text = c.args.text.now in
    let second = c.in-Some.second in
    let minute = c.in-Some-next_word.minute in
    let first = second_word text second.place second.end in
    let next = second_word text minute.place minute.end in
    let others = placed_words minute.end (drop minute.end text) in
    let words = two_words text second.place second.end minute.place minute.end c.in-Some.ensures.some c.in-Some-next_word.ensures.some in
    let told : c.number_error.result ≡ InFields (schedule_error_at None (told_or first.0 (front_fault first.1) (four_fault (length text) others))) =
    rw c.in-Err.ensures.fault at c.number_error.ensures.error in
    let number : error_with_seconds text (placed_words 0 text) ≡ InFields (schedule_error_at None (front_or (first ∷ next ∷ others) (four_fault (length text) others))) =
    ap (error_with_seconds text) words ∙ error_of_number text first next others c.in-Err.ensures.others in
    told ∙ ap (λ fault. InFields (schedule_error_at None fault)) (told_in_front first next others (four_fault (length text) others)) ∙ sym number
