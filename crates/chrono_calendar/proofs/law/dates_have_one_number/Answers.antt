use Rattle.std.proofs.Common.{ap, ◌∙◌}
use Rattle.chrono_calendar.specs.Days.{date_of_day}
use Rattle.chrono_calendar.proofs.NamedDates.{date_of_day-Some, date_of_day-number}
use Rattle.chrono_calendar.proofs.law.dates_have_one_number.Goals as goal

pub returns : goal.returns
returns c n m = (date_of_day-number n m, λ h. ap date_of_day h.1 ∙ date_of_day-Some n h.0)
