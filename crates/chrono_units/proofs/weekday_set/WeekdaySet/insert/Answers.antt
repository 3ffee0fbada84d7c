use Rattle.chrono_units.proofs.SetMembers.{insert_same}
use Rattle.chrono_units.proofs.weekday_set.WeekdaySet.insert.Goals as goal

pub returns-clause-changed : goal.returns-clause-changed
returns-clause-changed c = rw (c.contains-is_new.ensures, c.union.ensures, c.single.ensures) (insert_same c.args.self.now c.args.day)
