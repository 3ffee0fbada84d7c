use Rattle.std.proofs.Common.{subst, ap, arith}
use Rattle.std.specs.Str.Parse.{AllDigits, digits_value}
use Rattle.std.proofs.lemmas.List.{take_all}
use Rattle.std.proofs.lemmas.Str.Parse.{digit_at}
use Rattle.chrono_text.proofs.DigitLemmas.{value_fits}
use Rattle.chrono_text.proofs.read.places.value_of_all.Goals as goal

pub returns-then-len-text : goal.returns-then-len-text
returns-then-len-text c = λ all.
    let front = c.leading_digits-value.ensures in
    absurd (front.end (omega arith) (digit_at c.args.text.now c.leading_digits-value.result.1 all (omega arith)))

pub returns : goal.returns
returns c =
    let text = c.args.text.now in
    let front = c.leading_digits-value.ensures in
    let whole = take_all c.leading_digits-value.result.1 text (omega (arith, front.within)) in
    let all : AllDigits 10 text = subst (AllDigits 10) whole front.digits in
    let small = value_fits text all (omega arith) in
    (all, omega (arith, front.value, ap (digits_value 10) whole, small))
