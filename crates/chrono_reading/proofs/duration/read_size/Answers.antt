use Rattle.chrono_reading.proofs.DurationTextLemmas.{duration_found, seconds_small}
use Rattle.chrono_reading.proofs.duration.read_size.Goals as goal

pub returns-in_err-seconds-clause-every : goal.returns-in_err-seconds-clause-every
returns-in_err-seconds-clause-every c = λ size some within is.
    let none = c.in_err-seconds.ensures.every is.seconds is.nanos is.fraction (seconds_small _ size is within) is.fraction_written is.written in
    cc

pub returns-clause-every : goal.returns-clause-every
returns-clause-every c = λ size some within is.
    let found = c.in_ok-seconds.ensures.every is.seconds is.nanos is.fraction (seconds_small _ size is within) is.fraction_written is.written in
    duration_found _ c.in_ok-seconds.seconds is.seconds c.in_ok-seconds.nanos is.nanos size c.duration_of.ensures found is.names some within
