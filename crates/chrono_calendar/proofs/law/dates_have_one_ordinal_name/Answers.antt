use Rattle.chrono_calendar.proofs.NamedDates.{date_of_yo-name, date_of_yo-again}
use Rattle.chrono_calendar.proofs.law.dates_have_one_ordinal_name.Goals as goal

pub returns : goal.returns
returns c n y o h = (date_of_yo-name n y o, λ e. rw (e.0, e.1) (date_of_yo-again n h))
