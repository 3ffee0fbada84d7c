use Rattle.std.proofs.Common.{◌≡◌, ℕ, List, Ok, Err, ap, sym, ◌∙◌}
use Rattle.chrono_text.proofs.AnswerLemmas.{same_Ok}
use Rattle.chrono_pattern.specs.Progress.{Progress}
use Rattle.chrono_pattern.specs.Reads.{front_read, read_from}
use Rattle.chrono_pattern.specs.declared.item.State.TheVariants.{Outside}
use Rattle.chrono_pattern.proofs.OffsetExact.{no_answer}
use Rattle.chrono_pattern.proofs.RowExact.{front_exact}
use Rattle.chrono_pattern.proofs.pattern.Pattern.read_front.Goals as goal

pub returns-in-Ok-clause-front : goal.returns-in-Ok-clause-front
returns-in-Ok-clause-front c =
    let bytes = c.args.self.now in
    let text = c.args.text.now in
    let read : front_read bytes text ≡ Ok (record { rest = c.reader.inside.rest.now; parsed = c.reader.inside.parsed }) =
    sym (ap (λ (b : List ℕ). front_read b text) c.self.view_is)
    ∙ sym (ap (λ (r : Progress). read_from Outside c.self.inside.bytes.now r) c.reader_of-reader.ensures)
    ∙ c.in-Ok.ensures.read
    ∙ sym (ap (λ (r : Progress). Ok r) c.reader.view_is) in
    (front_exact bytes text _ _).0 read

pub returns-in-Ok-clause-only : goal.returns-in-Ok-clause-only
returns-in-Ok-clause-only c = λ p rest row.
    let bytes = c.args.self.now in
    let text = c.args.text.now in
    let read : front_read bytes text ≡ Ok (record { rest = c.reader.inside.rest.now; parsed = c.reader.inside.parsed }) =
    sym (ap (λ (b : List ℕ). front_read b text) c.self.view_is)
    ∙ sym (ap (λ (r : Progress). read_from Outside c.self.inside.bytes.now r) c.reader_of-reader.ensures)
    ∙ c.in-Ok.ensures.read
    ∙ sym (ap (λ (r : Progress). Ok r) c.reader.view_is) in
    let same = same_Ok _ _ (sym read ∙ (front_exact bytes text p rest).1 row) in
    (ap (λ (r : Progress). r.parsed) same, ap (λ (r : Progress). r.rest) same)

pub returns-in-Err-clause-exists : goal.returns-in-Err-clause-exists
returns-in-Err-clause-exists c = λ p rest row.
    let bytes = c.args.self.now in
    let text = c.args.text.now in
    let read : front_read bytes text ≡ Err c.in-Err.stop =
    sym (ap (λ (b : List ℕ). front_read b text) c.self.view_is)
    ∙ sym (ap (λ (r : Progress). read_from Outside c.self.inside.bytes.now r) c.reader_of-reader.ensures)
    ∙ c.in-Err.ensures.stop in
    no_answer _ _ (sym read ∙ (front_exact bytes text p rest).1 row)
