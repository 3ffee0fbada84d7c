use Rattle.std.proofs.Common.{subst}
use Rattle.chrono_calendar.proofs.NamedDates.{IsDate-year}
use Rattle.chrono_datetime.specs.Years.{IsYear}
use Rattle.chrono_pattern.proofs.date_parts.date_year.Goals as goal

pub returns-clause-in_range : goal.returns-clause-in_range
returns-clause-in_range c = IsDate-year c.args.date (subst IsYear c.year.ensures.value c.year.ensures.in_range)
