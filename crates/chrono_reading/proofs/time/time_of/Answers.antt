use Rattle.std.proofs.Common.{sym, ◌∙◌, arith}
use Rattle.chrono_reading.proofs.TimeTextLemmas.{IsTimeText-clock, IsTimeText-fraction, time_shown-found}
use Rattle.chrono_reading.proofs.time.time_of.Goals as goal

pub returns-in_err-read_fraction-clause-every : goal.returns-in_err-read_fraction-clause-every
returns-in_err-read_fraction-clause-every c = λ t is.
    let none = c.in_err-read_fraction.ensures.every is.nanos (IsTimeText-fraction _ _ t is c.in_ok-clock.ensures.cases.1) in cc

pub returns-clause-every : goal.returns-clause-every
returns-clause-every c = λ t is.
    let fraction = c.in_ok-read_fraction.ensures.every is.nanos (IsTimeText-fraction _ _ t is c.in_ok-clock.ensures.cases.1) in
    let clock = c.in_ok-hour.ensures.every is.hour is.minute is.second (omega arith) (omega arith) (omega arith) (IsTimeText-clock _ t is ∙ sym c.in_ok-clock.ensures.cases.0) in
    time_shown-found _ (c.in_ok-hour.hour, c.in_ok-hour.minute, c.in_ok-hour.second) is.hour is.minute is.second c.in_ok-read_fraction.field-0 is.nanos t
    c.time_shown.ensures clock fraction is.hour_in_day is.minute_in_hour is.second_in_minute is.names
