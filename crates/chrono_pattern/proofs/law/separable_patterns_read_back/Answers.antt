use Rattle.chrono_pattern.proofs.BackPatterns.{parts_back}
use Rattle.chrono_pattern.proofs.BackValues.{date_back, moment_back, time_back, whole_kept, zoned_back}
use Rattle.chrono_pattern.proofs.law.separable_patterns_read_back.Goals as goal

pub returns-clause-parts : goal.returns-clause-parts
returns-clause-parts c = parts_back

pub returns-clause-date : goal.returns-clause-date
returns-clause-date c = date_back

pub returns-clause-time : goal.returns-clause-time
returns-clause-time c = time_back

pub returns-clause-date_time : goal.returns-clause-date_time
returns-clause-date_time c = moment_back

pub returns-clause-zoned : goal.returns-clause-zoned
returns-clause-zoned c = zoned_back

pub returns-clause-whole : goal.returns-clause-whole
returns-clause-whole c = whole_kept
