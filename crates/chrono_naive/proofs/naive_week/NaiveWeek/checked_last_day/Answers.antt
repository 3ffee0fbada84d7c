use Rattle.std.proofs.Common.{pos, ◌+ℤ◌, rules}
use Rattle.chrono_naive.proofs.DayMoves.{IsSome-date_of_day, IfSome-date_of_day}
use Rattle.chrono_naive.proofs.naive_week.NaiveWeek.checked_last_day.Goals as goal

pub returns-clause-date : goal.returns-clause-date
returns-clause-date c = search rules

pub returns-clause-exists : goal.returns-clause-exists
returns-clause-exists c = IsSome-date_of_day _ (c.args.self.now +ℤ pos 6) (returns-clause-date c)

pub returns-clause-last : goal.returns-clause-last
returns-clause-last c = IfSome-date_of_day _ (c.args.self.now +ℤ pos 6) (returns-clause-date c)
