use Rattle.std.proofs.Common.{refl}
use Rattle.chrono_calendar.specs.Weeks.{week_first_of}
use Rattle.chrono_units.specs.declared.weekday.Weekday.TheVariants.{Mon}
use Rattle.chrono_calendar.proofs.WeekDays.{weekday_of-start}
use Rattle.chrono_calendar.proofs.IsoMondays.{iso_name-monday, iso_name-same, monday-same}
use Rattle.chrono_calendar.proofs.law.iso_weeks_begin_on_monday.Goals as goal

pub returns-clause-weekday : goal.returns-clause-weekday
returns-clause-weekday c = λ n. weekday_of-start n (week_first_of n Mon) Mon refl

pub returns-clause-year : goal.returns-clause-year
returns-clause-year c = λ n. (iso_name-monday n).0

pub returns-clause-week : goal.returns-clause-week
returns-clause-week c = λ n. (iso_name-monday n).1

pub returns-clause-same : goal.returns-clause-same
returns-clause-same c = λ n m. ((λ h. monday-same n m h.0 h.1), iso_name-same n m)
