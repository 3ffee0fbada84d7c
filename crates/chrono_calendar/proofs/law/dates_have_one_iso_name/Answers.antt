use Rattle.chrono_calendar.proofs.IsoDates.{date_of_iso-name, date_of_iso-again}
use Rattle.chrono_calendar.proofs.law.dates_have_one_iso_name.Goals as goal

pub returns : goal.returns
returns c n y w d h = (date_of_iso-name n y w d, λ e. rw (e.0, e.1, e.2) (date_of_iso-again n h))
