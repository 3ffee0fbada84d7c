use Rattle.chrono_reading.proofs.DateTimeLemmas.{IsDateTimeText-cut, IsDateTimeText-some, moment_found}
use Rattle.chrono_reading.proofs.date_time.date_time_of.Goals as goal

pub returns-in_err-at-clause-every : goal.returns-in_err-at-clause-every
returns-in_err-at-clause-every c = λ m is. absurd (IsDateTimeText-some _ m is c.in_err-at.ensures.none)

pub returns-in_err-date-clause-every : goal.returns-in_err-date-clause-every
returns-in_err-date-clause-every c = λ m is.
    let cut = IsDateTimeText-cut _ m is c.in_ok-at.at c.in_ok-at.ensures.found.1 c.in_ok-at.ensures.first in
    let none = c.in_err-date.ensures.every m.date cut.0 in
    cc

pub returns-in_err-time-clause-every : goal.returns-in_err-time-clause-every
returns-in_err-time-clause-every c = λ m is.
    let cut = IsDateTimeText-cut _ m is c.in_ok-at.at c.in_ok-at.ensures.found.1 c.in_ok-at.ensures.first in
    let none = c.in_err-time.ensures.every m.time cut.1 in
    cc

pub returns-clause-every : goal.returns-clause-every
returns-clause-every c = λ m is.
    let cut = IsDateTimeText-cut _ m is c.in_ok-at.at c.in_ok-at.ensures.found.1 c.in_ok-at.ensures.first in
    moment_found m _ _ _ c.new.ensures (c.in_ok-date.ensures.every m.date cut.0) (c.in_ok-time.ensures.every m.time cut.1)
