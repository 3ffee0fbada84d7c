use Rattle.chrono_pattern.proofs.DatePartLemmas.{century_cast, century_said, place_cast, place_said, window_said}
use Rattle.chrono_pattern.proofs.date_parts.year_in_century.Goals as goal

pub returns-in-Some : goal.returns-in-Some
returns-in-Some c = λ y year none named fits.
    c.year_of_century.ensures y year (century_cast _ y year (century_said c.args.parts y _ fits c.in-Some.is))
    (place_cast _ y (place_said c.args.parts y _ fits c.in_ok-part.was))

pub returns-in-None : goal.returns-in-None
returns-in-None c = λ y year none named fits.
    let within = window_said c.args.parts y _ fits none c.in-None.is c.in_ok-part.was in
    c.year_in_window.ensures y within.0 within.1 (place_cast _ y (place_said c.args.parts y _ fits c.in_ok-part.was))
