use Rattle.std.proofs.Common.{◌≡◌, ℕ, List, Ok, Err, ap, sym, ◌∙◌}
use Rattle.chrono_text.proofs.AnswerLemmas.{same_Ok}
use Rattle.chrono_pattern.specs.Progress.{Progress}
use Rattle.chrono_pattern.specs.Reads.{end_read, read_from, text_read}
use Rattle.chrono_pattern.specs.declared.item.State.TheVariants.{Outside}
use Rattle.chrono_pattern.specs.declared.parsed.Parsed.{Parsed}
use Rattle.chrono_pattern.proofs.OffsetExact.{no_answer}
use Rattle.chrono_pattern.proofs.RowExact.{text_exact}
use Rattle.chrono_pattern.proofs.pattern.Pattern.read_parts.Goals as goal

pub returns-in-Ok-clause-exact : goal.returns-in-Ok-clause-exact
returns-in-Ok-clause-exact c = λ p.
    let bytes = c.args.self.now in
    let text = c.args.text.now in
    let read : text_read bytes text ≡ Ok c.reader.inside.parsed =
    sym (ap (λ (b : List ℕ). text_read b text) c.self.view_is)
    ∙ sym (ap (λ (r : Progress). end_read (read_from Outside c.self.inside.bytes.now r)) c.reader_of-reader.ensures)
    ∙ c.in-Ok.ensures.read
    ∙ sym (ap (λ (r : Progress). Ok r.parsed) c.reader.view_is) in
    let exact = text_exact bytes text p in (
      λ h. exact.0 (read ∙ ap (λ (q : Parsed). Ok q) (same_Ok _ _ h)),
      λ row. ap (λ (q : Parsed). Ok q) (same_Ok _ _ (sym read ∙ exact.1 row)),
    )

pub returns-in-Err-clause-exact : goal.returns-in-Err-clause-exact
returns-in-Err-clause-exact c = λ p.
    let bytes = c.args.self.now in
    let text = c.args.text.now in
    let read : text_read bytes text ≡ Err c.in-Err.stop =
    sym (ap (λ (b : List ℕ). text_read b text) c.self.view_is)
    ∙ sym (ap (λ (r : Progress). end_read (read_from Outside c.self.inside.bytes.now r)) c.reader_of-reader.ensures)
    ∙ c.in-Err.ensures.stop in (
      λ h. no_answer _ _ h,
      λ row. no_answer _ _ (sym read ∙ (text_exact bytes text p).1 row),
    )
