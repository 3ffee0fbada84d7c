use Rattle.std.proofs.Common.{◌≡◌, ◌+◌, drop, length, ap, sym, ◌∙◌, arith}
use Rattle.std.proofs.lemmas.List.{take_rest}
use Rattle.chrono_reading.specs.Fitting.{fitting, leading_digits}
use Rattle.chrono_reading.proofs.FittingLemmas.{fitting-three}
use Rattle.chrono_reading.proofs.fitting.fitting_pieces.Goals as goal

pub returns-then-first-front-clause-value : goal.returns-then-first-front-clause-value
returns-then-first-front-clause-value c =
    let first = c.fitting_len-first.ensures.value in
    let three = fitting-three c.args.front.now c.args.end.now c.args.text.now c.args.digits in
    first ∙ sym (three.in_front (omega (arith, first, c.if-first-front.true)))

pub returns-then-second-digits-clause-value : goal.returns-then-second-digits-clause-value
returns-then-second-digits-clause-value c =
    let first = c.fitting_len-first.ensures.value in
    let whole : c.fitting_len-first.result ≡ length c.args.front.now = omega (arith, c.fitting_len-first.ensures.within_form, c.if-first-front.false) in
    let second : c.leading_digits-second.result ≡ leading_digits (drop (length c.args.front.now) c.args.text.now) =
    c.leading_digits-second.ensures.value ∙ ap leading_digits (take_rest c.args.text.now c.fitting_len-first.result) ∙ ap (λ k. leading_digits (drop k c.args.text.now)) whole in
    let three = fitting-three c.args.front.now c.args.end.now c.args.text.now c.args.digits in
    omega (arith, three.in_digits c.leading_digits-second.result (sym first ∙ whole) second c.if-second-digits.true, whole)

pub returns-clause-value : goal.returns-clause-value
returns-clause-value c =
    let first = c.fitting_len-first.ensures.value in
    let whole : c.fitting_len-first.result ≡ length c.args.front.now = omega (arith, c.fitting_len-first.ensures.within_form, c.if-first-front.false) in
    let second : c.leading_digits-second.result ≡ leading_digits (drop (length c.args.front.now) c.args.text.now) =
    c.leading_digits-second.ensures.value ∙ ap leading_digits (take_rest c.args.text.now c.fitting_len-first.result) ∙ ap (λ k. leading_digits (drop k c.args.text.now)) whole in
    let third : c.fitting_len-third.result ≡ fitting c.args.end.now (drop (length c.args.front.now + c.args.digits) c.args.text.now) =
    c.fitting_len-third.ensures.value ∙ ap (fitting c.args.end.now) (take_rest c.args.text.now (c.fitting_len-first.result + c.args.digits)) ∙ ap (λ k. fitting c.args.end.now (drop (k + c.args.digits) c.args.text.now)) whole in
    let three = fitting-three c.args.front.now c.args.end.now c.args.text.now c.args.digits in
    omega (arith, three.behind c.leading_digits-second.result (sym first ∙ whole) second c.if-second-digits.false, third, whole)
