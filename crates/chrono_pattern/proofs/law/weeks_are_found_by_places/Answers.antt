use Rattle.chrono_pattern.proofs.YearWeekLemmas.{week_from_monday_is, week_from_sunday_is}
use Rattle.chrono_pattern.proofs.law.weeks_are_found_by_places.Goals as goal

pub returns-clause-from_sunday : goal.returns-clause-from_sunday
returns-clause-from_sunday c = week_from_sunday_is

pub returns-clause-from_monday : goal.returns-clause-from_monday
returns-clause-from_monday c = week_from_monday_is
