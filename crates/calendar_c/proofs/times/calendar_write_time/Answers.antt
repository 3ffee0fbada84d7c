use Rattle.std.proofs.Common.{◌≡◌, ◌∙◌, ◌++◌, ap, List, ℕ, Option, length, arith, FitsSigned, rules, w32}
use Rattle.std.proofs.lemmas.Int.{to_z-of_z}
use Rattle.chrono_clock.specs.TimeText.{time_text}
use Rattle.chrono_text.proofs.AnswerLemmas.{no_one, the_one}
use Rattle.numbers_c.specs.Answers.{count_or_none}
use Rattle.numbers_c.specs.DateTimes.{time_from_c}
use Rattle.numbers_c.specs.Texts.{length_of, overwritten, text_within}
use Rattle.numbers_c.proofs.LengthLemmas.{enough}
use Rattle.calendar_c.proofs.PutLemmas.{put-found}
use Rattle.calendar_c.proofs.times.calendar_write_time.Goals as goal

pub returns-clause-length : goal.returns-clause-length
returns-clause-length c =
    let fits : FitsSigned w32 c.write_over.result = search rules in
    to_z-of_z w32 c.write_over.result fits ∙ c.write_over.ensures.length
    ∙ ap (λ (o : Option (List ℕ)). count_or_none (length_of (text_within (length c.args.text.now) o))) (put-found time_text _ _ _ _ _ c.in-Some.ensures c.as_bytes.ensures.value c.put_into.ensures.text c.new-written.ensures)

pub returns-clause-bytes : goal.returns-clause-bytes
returns-clause-bytes c =
    c.write_over.ensures.bytes
    ∙ ap (λ (o : Option (List ℕ)). overwritten (text_within (length c.args.text.now) o) c.args.text.now) (put-found time_text _ _ _ _ _ c.in-Some.ensures c.as_bytes.ensures.value c.put_into.ensures.text c.new-written.ensures)

pub returns-in_default-clause-enough : goal.returns-in_default-clause-enough
returns-in_default-clause-enough c = λ t is _. absurd (no_one (time_from_c c.args.time) t c.in_default.ensures is)

pub returns-clause-enough : goal.returns-clause-enough
returns-clause-enough c =
    let fits : FitsSigned w32 c.write_over.result = search rules in
    let written : c.as_bytes.result.now ≡ time_text c.in-Some.time =
    c.as_bytes.ensures.value ∙ c.put_into.ensures.text ∙ ap (λ s. s ++ time_text c.in-Some.time) c.new-written.ensures in
    λ t is room.
    to_z-of_z w32 c.write_over.result fits ∙ c.write_over.ensures.length
    ∙ enough c.as_bytes.result.now (time_text t) (length c.args.text.now) (written ∙ ap time_text (the_one _ _ _ c.in-Some.ensures is)) (omega (arith, room, c.as_bytes.ensures.fits))
