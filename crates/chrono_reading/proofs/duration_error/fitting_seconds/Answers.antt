use Rattle.std.proofs.Common.{◌≡◌, List, ℕ, drop, length, ap, ◌∙◌, arith}
use Rattle.std.proofs.lemmas.List.{take_rest}
use Rattle.chrono_reading.specs.DurationErrors.{end_form, seconds_form, whole_form}
use Rattle.chrono_reading.specs.Fitting.{fitting}
use Rattle.chrono_reading.proofs.FittingLemmas.{fitting-le, fitting-two}
use Rattle.chrono_reading.proofs.duration_error.fitting_seconds.Goals as goal

pub returns-then-fit-whole_len-clause-value : goal.returns-then-fit-whole_len-clause-value
unfolding seconds_form
returns-then-fit-whole_len-clause-value c =
    let text = c.args.text.now in
    (fitting-two (whole_form text) (end_form (drop (length (whole_form text)) text)) text c.fitting_whole-fit.result c.fitting_whole-fit.ensures.value).0 (omega (arith, c.whole_len.ensures, c.if-fit-whole_len.true))

pub returns-clause-value : goal.returns-clause-value
unfolding seconds_form
returns-clause-value c =
    let text = c.args.text.now in
    let whole : c.fitting_whole-fit.result ≡ length (whole_form text) = omega (arith, c.fitting_whole-fit.ensures.value, fitting-le (whole_form text) text, c.whole_len.ensures, c.if-fit-whole_len.false) in
    let rest = take_rest text c.fitting_whole-fit.result ∙ ap (λ k. drop k text) whole in
    (fitting-two (whole_form text) (end_form (drop (length (whole_form text)) text)) text c.fitting_whole-fit.result c.fitting_whole-fit.ensures.value).1
    (omega (arith, c.whole_len.ensures, c.if-fit-whole_len.false)) c.fitting_end.result (c.fitting_end.ensures.value ∙ ap (λ (t : List ℕ). fitting (end_form t) t) rest)
