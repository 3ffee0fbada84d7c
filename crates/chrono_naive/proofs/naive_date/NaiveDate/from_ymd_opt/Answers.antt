use Rattle.std.proofs.Common.{Some, rules}
use Rattle.chrono_calendar.proofs.GivenNames.{given_ymd}
use Rattle.chrono_naive.proofs.naive_date.NaiveDate.from_ymd_opt.Goals as goal

-- ---- where there is no such date

pub returns-in_err-from_ymd-clause-date : goal.returns-in_err-from_ymd-clause-date
returns-in_err-from_ymd-clause-date c = search rules

pub returns-in_err-from_ymd-clause-exists : goal.returns-in_err-from_ymd-clause-exists
returns-in_err-from_ymd-clause-exists c = (given_ymd c.from_residual.result c.args.year c.args.month c.args.day (returns-in_err-from_ymd-clause-date c)).0

-- ---- and where there is one

pub returns-clause-date : goal.returns-clause-date
returns-clause-date c = search rules

pub returns-clause-exists : goal.returns-clause-exists
returns-clause-exists c = (given_ymd (Some c.in_ok-from_ymd.field-0) c.args.year c.args.month c.args.day (returns-clause-date c)).0

pub returns-clause-year : goal.returns-clause-year
returns-clause-year c = (given_ymd (Some c.in_ok-from_ymd.field-0) c.args.year c.args.month c.args.day (returns-clause-date c)).1

pub returns-clause-month : goal.returns-clause-month
returns-clause-month c = (given_ymd (Some c.in_ok-from_ymd.field-0) c.args.year c.args.month c.args.day (returns-clause-date c)).2

pub returns-clause-day : goal.returns-clause-day
returns-clause-day c = (given_ymd (Some c.in_ok-from_ymd.field-0) c.args.year c.args.month c.args.day (returns-clause-date c)).3
