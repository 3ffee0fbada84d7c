use Rattle.chrono_pattern.proofs.NotEnough.{date_exactly, moment_exactly, time_exactly, zoned_exactly}
use Rattle.chrono_pattern.proofs.law.not_enough_is_told_by_the_specifiers.Goals as goal

pub returns-clause-date : goal.returns-clause-date
returns-clause-date c = date_exactly

pub returns-clause-time : goal.returns-clause-time
returns-clause-time c = time_exactly

pub returns-clause-date_time : goal.returns-clause-date_time
returns-clause-date_time c = moment_exactly

pub returns-clause-zoned : goal.returns-clause-zoned
returns-clause-zoned c = zoned_exactly
