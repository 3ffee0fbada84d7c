use Rattle.std.proofs.Common.{◌≡◌, ◌∙◌, List, ℕ, [], ◌∷◌, ◌++◌, ap, arith, subst, sym}
use Rattle.std.proofs.lemmas.Str.{IsAscii-append}
use Rattle.std.proofs.lemmas.Str.Ascii.{IsAscii-cons, IsAscii-nil}
use Rattle.std.specs.Str.{IsAscii}
use Rattle.chrono_datetime.specs.TimeText.{time_text}
use Rattle.chrono_stamps.specs.WrittenStamps.{mail_date_text, mail_zone_text, whole_second}
use Rattle.chrono_stamps.proofs.rfc2822_writer.rfc2822_of.Goals as goal

pub returns-clause-ascii : goal.returns-clause-ascii
returns-clause-ascii c =
    let date = mail_date_text c.date.result in
    let time = time_text (whole_second c.time.result) in
    let zone = mail_zone_text c.args.offset in
    let space = IsAscii-cons 32 [] (omega arith) IsAscii-nil in
    let front : c.put_mail_date.new.text ≡ date = c.put_mail_date.ensures.text ∙ ap (λ (l : List ℕ). l ++ date) c.new-text.ensures in
    let spaced : c.push.new.self ≡ date ++ 32 ∷ [] = c.push.ensures ∙ ap (λ (l : List ℕ). l ++ 32 ∷ []) front in
    let timed : c.put_whole_second.new.text ≡ (date ++ 32 ∷ []) ++ time = c.put_whole_second.ensures.text ∙ ap (λ (l : List ℕ). l ++ time) spaced in
    let after : c.push-2.new.self ≡ ((date ++ 32 ∷ []) ++ time) ++ 32 ∷ [] = c.push-2.ensures ∙ ap (λ (l : List ℕ). l ++ 32 ∷ []) timed in
    let whole : c.put_zone.new.text ≡ (((date ++ 32 ∷ []) ++ time) ++ 32 ∷ []) ++ zone = c.put_zone.ensures.text ∙ ap (λ (l : List ℕ). l ++ zone) after in
    let first = IsAscii-append date (32 ∷ []) c.put_mail_date.ensures.ascii space in
    let second = IsAscii-append (date ++ 32 ∷ []) time first c.put_whole_second.ensures.ascii in
    let third = IsAscii-append ((date ++ 32 ∷ []) ++ time) (32 ∷ []) second space in
    subst (λ (l : List ℕ). IsAscii l) (sym whole) (IsAscii-append (((date ++ 32 ∷ []) ++ time) ++ 32 ∷ []) zone third c.put_zone.ensures.ascii)
