use Rattle.std.proofs.Common.{◌≡◌, ◌∙◌, List, ℕ, [], ◌∷◌, ◌++◌, ap, arith, lit<, subst, sym}
use Rattle.std.proofs.lemmas.Str.{IsAscii-append}
use Rattle.std.proofs.lemmas.Str.Ascii.{IsAscii-cons, IsAscii-nil}
use Rattle.std.specs.Str.{IsAscii}
use Rattle.chrono_datetime.specs.MomentText.{moment_text}
use Rattle.chrono_instant.specs.OffsetText.{offset_text}
use Rattle.chrono_zoned.proofs.date_time.text.DateTimeDisplay.fmt.Goals as goal

pub print-requires : goal.print-requires
print-requires g c =
    let local = moment_text 32 c.naive_local.result in
    let offset = offset_text c.offset.result in
    let front : c.put_into.new.text ≡ local = c.put_into.ensures.text ∙ ap (λ (l : List ℕ). l ++ local) c.new-text.ensures in
    let spaced : c.push.new.self ≡ local ++ 32 ∷ [] = c.push.ensures ∙ ap (λ (l : List ℕ). l ++ 32 ∷ []) front in
    let whole : c.put_into-2.new.text ≡ (local ++ 32 ∷ []) ++ offset = c.put_into-2.ensures.text ∙ ap (λ (l : List ℕ). l ++ offset) spaced in
    let ascii = IsAscii-append local (32 ∷ []) (c.put_into.ensures.ascii (omega arith)) (IsAscii-cons 32 [] (omega arith) IsAscii-nil) in
    (lit< tt, subst (λ (l : List ℕ). IsAscii l) (sym whole) (IsAscii-append (local ++ 32 ∷ []) offset ascii c.put_into-2.ensures.ascii))
