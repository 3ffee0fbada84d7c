use Rattle.std.proofs.Common.{◌≡◌, ◌∙◌, ◌++◌, ap, List, ℕ, Option, length, arith, FitsSigned, rules, w32}
use Rattle.std.proofs.lemmas.Int.{to_z-of_z}
use Rattle.chrono_text.specs.Text.{duration_text}
use Rattle.chrono_text.proofs.AnswerLemmas.{no_one, the_one}
use Rattle.numbers_c.specs.Answers.{count_or_none}
use Rattle.numbers_c.specs.DateTimes.{duration_from_c}
use Rattle.numbers_c.specs.Texts.{length_of, overwritten, text_within}
use Rattle.numbers_c.proofs.LengthLemmas.{enough}
use Rattle.calendar_c.proofs.PutLemmas.{put-found}
use Rattle.calendar_c.proofs.durations.calendar_write_duration.Goals as goal

pub returns-clause-length : goal.returns-clause-length
returns-clause-length c =
    let fits : FitsSigned w32 c.write_over.result = search rules in
    to_z-of_z w32 c.write_over.result fits ∙ c.write_over.ensures.length
    ∙ ap (λ (o : Option (List ℕ)). count_or_none (length_of (text_within (length c.args.text.now) o))) (put-found duration_text _ _ _ _ _ c.in-Some.ensures c.as_bytes.ensures.value c.put_into.ensures.text c.new-written.ensures)

pub returns-clause-bytes : goal.returns-clause-bytes
returns-clause-bytes c =
    c.write_over.ensures.bytes
    ∙ ap (λ (o : Option (List ℕ)). overwritten (text_within (length c.args.text.now) o) c.args.text.now) (put-found duration_text _ _ _ _ _ c.in-Some.ensures c.as_bytes.ensures.value c.put_into.ensures.text c.new-written.ensures)

pub returns-in_default-clause-enough : goal.returns-in_default-clause-enough
returns-in_default-clause-enough c = λ x is _. absurd (no_one (duration_from_c c.args.duration) x c.in_default.ensures is)

pub returns-clause-enough : goal.returns-clause-enough
returns-clause-enough c =
    let fits : FitsSigned w32 c.write_over.result = search rules in
    let written : c.as_bytes.result.now ≡ duration_text c.in-Some.duration =
    c.as_bytes.ensures.value ∙ c.put_into.ensures.text ∙ ap (λ s. s ++ duration_text c.in-Some.duration) c.new-written.ensures in
    λ x is room.
    to_z-of_z w32 c.write_over.result fits ∙ c.write_over.ensures.length
    ∙ enough c.as_bytes.result.now (duration_text x) (length c.args.text.now) (written ∙ ap duration_text (the_one _ _ _ c.in-Some.ensures is)) (omega (arith, room, ap length c.as_bytes.ensures.value, ap length c.new-written.ensures, c.put_into.ensures.fits))
