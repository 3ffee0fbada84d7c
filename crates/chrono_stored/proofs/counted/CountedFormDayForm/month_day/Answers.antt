use Rattle.chrono_calendar.proofs.NamedDates.{calendar_name-exists}
use Rattle.chrono_stored.proofs.counted.CountedFormDayForm.month_day.Goals as goal

pub returns-clause-exists : goal.returns-clause-exists
returns-clause-exists c = calendar_name-exists c.args.self.now
