use Rattle.std.proofs.Common.{rules}
use Rattle.chrono_naive.proofs.DayMoves.{IsSome-date_of_day, IfSome-date_of_day}
use Rattle.chrono_naive.proofs.naive_date.NaiveDate.from_num_days_from_ce_opt.Goals as goal

pub returns-clause-date : goal.returns-clause-date
returns-clause-date c = search rules

pub returns-clause-exists : goal.returns-clause-exists
returns-clause-exists c = IsSome-date_of_day _ c.args.days (returns-clause-date c)

pub returns-clause-number : goal.returns-clause-number
returns-clause-number c = IfSome-date_of_day _ c.args.days (returns-clause-date c)
