use Rattle.chrono_calendar.proofs.WeekDays.{week_first_of-place, week_first_of-only}
use Rattle.chrono_calendar.proofs.law.weeks_have_one_first_day.Goals as goal

pub returns : goal.returns
returns c n m start = (week_first_of-place n m start, λ h. week_first_of-only n m start h.0 h.1 h.2)
