use Rattle.std.proofs.Common.{◌≡◌, ◌∙◌, List, ℕ, ◌++◌, ap, arith, subst, sym}
use Rattle.std.proofs.lemmas.Str.{IsAscii-append}
use Rattle.std.specs.Str.{IsAscii}
use Rattle.chrono_datetime.specs.MomentText.{moment_text}
use Rattle.chrono_instant.specs.OffsetText.{offset_text}
use Rattle.chrono_stamps.proofs.iso8601_writer.iso8601_of.Goals as goal

pub returns-clause-ascii : goal.returns-clause-ascii
returns-clause-ascii c =
    let local = moment_text 84 c.args.local in
    let offset = offset_text c.args.offset in
    let front : c.put_into.new.text ≡ local = c.put_into.ensures.text ∙ ap (λ (l : List ℕ). l ++ local) c.new-text.ensures in
    let whole : c.put_into-2.new.text ≡ local ++ offset = c.put_into-2.ensures.text ∙ ap (λ (l : List ℕ). l ++ offset) front in
    subst (λ (l : List ℕ). IsAscii l) (sym whole) (IsAscii-append local offset (c.put_into.ensures.ascii (omega arith)) c.put_into-2.ensures.ascii)
