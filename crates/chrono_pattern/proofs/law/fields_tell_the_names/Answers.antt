use Rattle.chrono_pattern.proofs.FieldNames.{same_date, same_moment, same_time, same_zoned}
use Rattle.chrono_pattern.proofs.law.fields_tell_the_names.Goals as goal

pub returns-clause-date : goal.returns-clause-date
returns-clause-date c = same_date

pub returns-clause-time : goal.returns-clause-time
returns-clause-time c = same_time

pub returns-clause-date_time : goal.returns-clause-date_time
returns-clause-date_time c = same_moment

pub returns-clause-zoned : goal.returns-clause-zoned
returns-clause-zoned c = same_zoned
