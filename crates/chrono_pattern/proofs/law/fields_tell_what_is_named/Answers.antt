use Rattle.chrono_pattern.proofs.ShapeLemmas.{date_is_named, moment_is_named, time_is_named, zoned_is_named}
use Rattle.chrono_pattern.proofs.law.fields_tell_what_is_named.Goals as goal

pub returns-clause-date : goal.returns-clause-date
returns-clause-date c = date_is_named

pub returns-clause-time : goal.returns-clause-time
returns-clause-time c = time_is_named

pub returns-clause-date_time : goal.returns-clause-date_time
returns-clause-date_time c = moment_is_named

pub returns-clause-zoned : goal.returns-clause-zoned
returns-clause-zoned c = zoned_is_named
