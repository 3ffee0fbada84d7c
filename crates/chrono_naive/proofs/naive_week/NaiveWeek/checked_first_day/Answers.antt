use Rattle.std.proofs.Common.{rules}
use Rattle.chrono_naive.proofs.DayMoves.{IsSome-date_of_day, IfSome-date_of_day}
use Rattle.chrono_naive.proofs.naive_week.NaiveWeek.checked_first_day.Goals as goal

pub returns-clause-date : goal.returns-clause-date
returns-clause-date c = search rules

pub returns-clause-exists : goal.returns-clause-exists
returns-clause-exists c = IsSome-date_of_day _ c.args.self.now (returns-clause-date c)

pub returns-clause-first : goal.returns-clause-first
returns-clause-first c = IfSome-date_of_day _ c.args.self.now (returns-clause-date c)
