use Rattle.std.proofs.Common.{ap, ◌∙◌}
use Rattle.std.proofs.lemmas.List.{take_rest}
use Rattle.chrono_reading.specs.Fitting.{leading_digits}
use Rattle.chrono_reading.specs.TimeErrors.{places_of_form}
use Rattle.chrono_reading.proofs.PartsLemmas.{time_form-long, time_form-short}
use Rattle.chrono_reading.proofs.time.fitting_time.Goals as goal

pub returns-then-text-le8-clause-value : goal.returns-then-text-le8-clause-value
returns-then-text-le8-clause-value c = let form = time_form-short c.args.text.now c.if-text-le8.true in cc (c.fitting_len.ensures.value, form)

pub returns-clause-value : goal.returns-clause-value
returns-clause-value c =
    let form = time_form-long c.args.text.now c.places_of_form-places.result c.if-text-le8.false (c.places_of_form-places.ensures ∙ ap places_of_form (c.leading_digits.ensures.value ∙ ap leading_digits (take_rest c.args.text.now 9))) in
    cc (c.fitting_pieces.ensures.value, form)
