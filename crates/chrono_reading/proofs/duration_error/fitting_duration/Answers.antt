use Rattle.std.proofs.Common.{◌≡◌, List, ℕ, drop, length, sym, ap, ◌∙◌, arith}
use Rattle.std.proofs.lemmas.List.{take_rest}
use Rattle.chrono_reading.specs.DurationErrors.{seconds_form, seconds_front}
use Rattle.chrono_reading.specs.Fitting.{fitting}
use Rattle.chrono_reading.proofs.FittingLemmas.{fitting-le, fitting-two}
use Rattle.chrono_reading.proofs.PartsLemmas.{duration_form-other, duration_form-zero}
use Rattle.chrono_reading.proofs.duration_error.fitting_duration.Goals as goal

pub returns-then-fits_front : goal.returns-then-fits_front
returns-then-fits_front c =
    c.fitting_len.ensures.value ∙ ap (λ (form : List ℕ). fitting form c.args.text.now) (sym (duration_form-zero c.args.text.now (sym c.fits_front.ensures.value ∙ c.if-fits_front.true)))

pub returns-then-fit-front : goal.returns-then-fit-front
returns-then-fit-front c =
    let text = c.args.text.now in
    let front = seconds_front text in
    let fit : c.fitting_len-fit.result ≡ fitting front text = c.fitting_len-fit.ensures.value ∙ ap (λ (form : List ℕ). fitting form text) c.seconds_front-front.ensures in
    (fitting-two front (seconds_form (drop (length front) text)) text c.fitting_len-fit.result fit).0 (omega (arith, ap length c.seconds_front-front.ensures, c.if-fit-front.true))
    ∙ ap (λ (form : List ℕ). fitting form text) (sym (duration_form-other text (sym c.fits_front.ensures.value ∙ c.if-fits_front.false)))

pub returns : goal.returns
returns c =
    let text = c.args.text.now in
    let front = seconds_front text in
    let fit : c.fitting_len-fit.result ≡ fitting front text = c.fitting_len-fit.ensures.value ∙ ap (λ (form : List ℕ). fitting form text) c.seconds_front-front.ensures in
    let same = ap length c.seconds_front-front.ensures in
    let whole : c.fitting_len-fit.result ≡ length front = omega (arith, fit, fitting-le front text, same, c.if-fit-front.false) in
    let rest = take_rest text c.fitting_len-fit.result ∙ ap (λ k. drop k text) whole in
    (fitting-two front (seconds_form (drop (length front) text)) text c.fitting_len-fit.result fit).1 (omega (arith, same, c.if-fit-front.false)) c.fitting_seconds.result
    (c.fitting_seconds.ensures.value ∙ ap (λ (t : List ℕ). fitting (seconds_form t) t) rest)
    ∙ ap (λ (form : List ℕ). fitting form text) (sym (duration_form-other text (sym c.fits_front.ensures.value ∙ c.if-fits_front.false)))
