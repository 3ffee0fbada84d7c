use Rattle.std.proofs.Common.{◌≡◌, ◌∙◌, ◌++◌, ap, List, ℕ, Option, length, arith, FitsSigned, rules, w32}
use Rattle.std.proofs.lemmas.Int.{to_z-of_z}
use Rattle.chrono_calendar.proofs.NamedDates.{date_of_day-Some, none-date_of_day}
use Rattle.chrono_datetime.specs.DateText.{date_text}
use Rattle.chrono_text.proofs.AnswerLemmas.{the_one}
use Rattle.numbers_c.specs.Answers.{count_or_none}
use Rattle.numbers_c.specs.Texts.{length_of, overwritten, text_within}
use Rattle.numbers_c.proofs.LengthLemmas.{enough}
use Rattle.calendar_c.proofs.PutLemmas.{put-found}
use Rattle.calendar_c.proofs.texts.calendar_write_date.Goals as goal

pub returns-clause-length : goal.returns-clause-length
returns-clause-length c =
    let fits : FitsSigned w32 c.write_over.result = search rules in
    let date = rw (to_z-of_z w32 c.args.date c.ranges.date) at c.in-Some.ensures.date in
    to_z-of_z w32 c.write_over.result fits ∙ c.write_over.ensures.length
    ∙ ap (λ (o : Option (List ℕ)). count_or_none (length_of (text_within (length c.args.text.now) o))) (put-found date_text _ _ _ _ _ date c.as_bytes.ensures.value c.put_into.ensures.text c.new-written.ensures)

pub returns-clause-bytes : goal.returns-clause-bytes
returns-clause-bytes c =
    let date = rw (to_z-of_z w32 c.args.date c.ranges.date) at c.in-Some.ensures.date in
    c.write_over.ensures.bytes
    ∙ ap (λ (o : Option (List ℕ)). overwritten (text_within (length c.args.text.now) o) c.args.text.now) (put-found date_text _ _ _ _ _ date c.as_bytes.ensures.value c.put_into.ensures.text c.new-written.ensures)

pub returns-in_default-clause-enough : goal.returns-in_default-clause-enough
returns-in_default-clause-enough c =
    λ date _. absurd (none-date_of_day c.args.date (rw (to_z-of_z w32 c.args.date c.ranges.date) at c.in_default.ensures.date) date)

pub returns-clause-enough : goal.returns-clause-enough
returns-clause-enough c =
    let fits : FitsSigned w32 c.write_over.result = search rules in
    let found = rw (to_z-of_z w32 c.args.date c.ranges.date) at c.in-Some.ensures.date in
    let written : c.as_bytes.result.now ≡ date_text c.in-Some.date =
    c.as_bytes.ensures.value ∙ c.put_into.ensures.text ∙ ap (λ s. s ++ date_text c.in-Some.date) c.new-written.ensures in
    λ date room.
    to_z-of_z w32 c.write_over.result fits ∙ c.write_over.ensures.length
    ∙ enough c.as_bytes.result.now (date_text c.args.date) (length c.args.text.now) (written ∙ ap date_text (the_one _ _ _ found (date_of_day-Some c.args.date date))) (omega (arith, room, c.as_bytes.ensures.fits))
