use Rattle.std.proofs.Common.{rules, ◌+ℤ◌}
use Rattle.chrono_naive.proofs.DayMoves.{IsSome-date_of_day, IfSome-date_of_day, IfSome-later}
use Rattle.chrono_naive.proofs.naive_date.NaiveDate.moved_by_days.Goals as goal

pub returns-clause-date : goal.returns-clause-date
returns-clause-date c = search rules

pub returns-clause-exists : goal.returns-clause-exists
returns-clause-exists c = IsSome-date_of_day _ (c.args.self +ℤ c.args.days) (returns-clause-date c)

pub returns-clause-moved : goal.returns-clause-moved
returns-clause-moved c = IfSome-date_of_day _ (c.args.self +ℤ c.args.days) (returns-clause-date c)

pub returns-clause-back : goal.returns-clause-back
returns-clause-back c = IfSome-later _ c.args.self c.args.days (returns-clause-date c)
