use Rattle.chrono_calendar.proofs.Names.{ordinal_name_of-number}
use Rattle.chrono_calendar.proofs.MonthMoveLaws.{year_of-range}
use Rattle.chrono_stored.proofs.counted.CountedFormDayForm.year_ordinal.Goals as goal

pub returns-clause-in_range : goal.returns-clause-in_range
returns-clause-in_range c = year_of-range c.args.self.now (rw c.self.view_is at c.self.invariant)

pub returns-clause-exists : goal.returns-clause-exists
returns-clause-exists c = (ordinal_name_of-number c.args.self.now).exists
