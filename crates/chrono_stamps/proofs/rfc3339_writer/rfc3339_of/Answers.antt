use Rattle.std.proofs.Common.{◌≡◌, ◌∙◌, List, ℕ, [], ◌∷◌, ◌++◌, ap, arith, subst, sym}
use Rattle.std.proofs.lemmas.Str.{IsAscii-append}
use Rattle.std.proofs.lemmas.Str.Ascii.{IsAscii-cons, IsAscii-nil}
use Rattle.std.specs.Str.{IsAscii}
use Rattle.chrono_datetime.specs.DateText.{date_text}
use Rattle.chrono_stamps.specs.WrittenStamps.{offset_in, time_in}
use Rattle.chrono_stamps.proofs.rfc3339_writer.rfc3339_of.Goals as goal

pub returns-clause-ascii : goal.returns-clause-ascii
returns-clause-ascii c =
    let date = date_text c.date.result in
    let time = time_in c.args.form c.time.result in
    let offset = offset_in c.args.use_z c.args.offset in
    let front : c.put_into.new.text ≡ date = c.put_into.ensures.text ∙ ap (λ (l : List ℕ). l ++ date) c.new-text.ensures in
    let lettered : c.push.new.self ≡ date ++ 84 ∷ [] = c.push.ensures ∙ ap (λ (l : List ℕ). l ++ 84 ∷ []) front in
    let timed : c.put_time.new.text ≡ (date ++ 84 ∷ []) ++ time = c.put_time.ensures.text ∙ ap (λ (l : List ℕ). l ++ time) lettered in
    let whole : c.put_offset.new.text ≡ ((date ++ 84 ∷ []) ++ time) ++ offset = c.put_offset.ensures.text ∙ ap (λ (l : List ℕ). l ++ offset) timed in
    let first = IsAscii-append date (84 ∷ []) c.put_into.ensures.ascii (IsAscii-cons 84 [] (omega arith) IsAscii-nil) in
    let second = IsAscii-append (date ++ 84 ∷ []) time first c.put_time.ensures.ascii in
    subst (λ (l : List ℕ). IsAscii l) (sym whole) (IsAscii-append ((date ++ 84 ∷ []) ++ time) offset second c.put_offset.ensures.ascii)
