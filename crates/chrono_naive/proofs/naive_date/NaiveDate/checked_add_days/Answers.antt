use Rattle.std.proofs.Common.{pos, ◌+ℤ◌}
use Rattle.chrono_naive.proofs.DayMoves.{IsSome-date_of_day, IfSome-date_of_day, IfSome-later}
use Rattle.chrono_naive.proofs.naive_date.NaiveDate.checked_add_days.Goals as goal

pub returns-clause-exists : goal.returns-clause-exists
returns-clause-exists c = IsSome-date_of_day _ (c.args.self +ℤ pos c.args.days) c.checked_add_days_counted-date.ensures.date

pub returns-clause-moved : goal.returns-clause-moved
returns-clause-moved c = IfSome-date_of_day _ (c.args.self +ℤ pos c.args.days) c.checked_add_days_counted-date.ensures.date

pub returns-clause-back : goal.returns-clause-back
returns-clause-back c = IfSome-later _ c.args.self (pos c.args.days) c.checked_add_days_counted-date.ensures.date
