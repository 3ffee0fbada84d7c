use Rattle.chrono_units.proofs.SetMembers.{remove_same}
use Rattle.chrono_units.proofs.weekday_set.WeekdaySet.remove.Goals as goal

pub returns-clause-changed : goal.returns-clause-changed
returns-clause-changed c = rw (c.contains-was_member.ensures, c.difference.ensures, c.single.ensures) (remove_same c.args.self.now c.args.day)
