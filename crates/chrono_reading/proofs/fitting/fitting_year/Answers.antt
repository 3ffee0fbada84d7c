use Rattle.chrono_reading.specs.Fitting.{year_form}
use Rattle.chrono_reading.proofs.fitting.fitting_year.Goals as goal

pub returns-clause-value : goal.returns-clause-value
unfolding year_form
returns-clause-value c = cc (c.fitting_pieces.ensures.value, c.year_front.ensures, c.year_more.ensures.value)
