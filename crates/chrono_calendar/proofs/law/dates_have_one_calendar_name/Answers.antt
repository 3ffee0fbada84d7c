use Rattle.chrono_calendar.proofs.NamedDates.{date_of_ymd-name, date_of_ymd-again}
use Rattle.chrono_calendar.proofs.law.dates_have_one_calendar_name.Goals as goal

pub returns : goal.returns
returns c n y m d h = (date_of_ymd-name n y m d, λ e. rw (e.0, e.1, e.2) (date_of_ymd-again n h))
