use Rattle.std.proofs.Common.{◌≡◌, min, Some, None, length, inl, inr, subst, sym, ap, ◌∙◌, arith}
use Rattle.std.specs.Option.{option_map}
use Rattle.std.specs.Str.Parse.{AllDigits, digits_value}
use Rattle.std.proofs.lemmas.Bool.{cases_lt}
use Rattle.std.proofs.lemmas.List.{take_all}
use Rattle.chrono_text.specs.Numbers.{natural_of}
use Rattle.chrono_text.proofs.DigitLemmas.{natural_some}
use Rattle.chrono_text.proofs.NaturalLemmas.{natural_nothing, natural_stops, same_least}
use Rattle.chrono_text.proofs.read.natural.natural.Goals as goal
use Rattle.chrono_text.proofs.read.natural.natural.Goals.{then-len-eq0-via-then-len-eq0, then-len-eq0-via-else-len-eq0+then-len-text}

pub returns-then-len-eq0 : goal.returns-then-len-eq0
returns-then-len-eq0 c =
    let text = c.args.text.now in
    let len = c.leading_digits-value.result.1 in
    let none : natural_of text ≡ None = elim (cases_lt len (length text)) [
      | inl less ↦ natural_stops text len less (c.leading_digits-value.ensures.end less)
      | inr all ↦ elim c.then-len-eq0.branch [
        | then-len-eq0-via-then-len-eq0 w ↦ natural_nothing text (omega (arith, w.if-len-eq0.true, all))
        | then-len-eq0-via-else-len-eq0+then-len-text w ↦ absurd (omega (arith, w.if-len-text.true, all))
      ]
    ] in
    sym (ap (option_map (min 18_446_744_073_709_551_615)) none)

pub returns : goal.returns
returns c =
    let text = c.args.text.now in
    let len = c.leading_digits-value.result.1 in
    let front = c.leading_digits-value.ensures in
    let whole = take_all len text (omega (arith, c.if-len-text.false)) in
    let all : AllDigits 10 text = subst (AllDigits 10) whole front.digits in
    let value = front.value ∙ ap (λ t. min (digits_value 10 t) 18_446_744_073_709_551_615) whole in
    ap Some (value ∙ same_least (digits_value 10 text)) ∙ sym (ap (option_map (min 18_446_744_073_709_551_615)) (natural_some text all (omega (arith, c.if-len-eq0.false, front.within))))
