use Rattle.std.proofs.Common.{List, ℕ, ap, ◌∙◌}
use Rattle.chrono_reading.specs.Fitting.{fitting}
use Rattle.chrono_reading.proofs.PartsLemmas.{whole_form-is}
use Rattle.chrono_reading.proofs.duration_error.fitting_whole.Goals as goal

pub returns-clause-value : goal.returns-clause-value
returns-clause-value c =
    c.fitting_pieces.ensures.value
    ∙ ap (λ (form : List ℕ). fitting form c.args.text.now) (whole_form-is c.args.text.now c.whole_front.result.now c.whole_more.result c.whole_front.ensures c.whole_more.ensures.value)
