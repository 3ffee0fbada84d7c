use Rattle.std.proofs.Common.{Some, rules}
use Rattle.chrono_calendar.proofs.GivenNames.{given_yo}
use Rattle.chrono_naive.proofs.naive_date.NaiveDate.from_yo_opt.Goals as goal

-- ---- where there is no such date

pub returns-in_err-from_yo-clause-date : goal.returns-in_err-from_yo-clause-date
returns-in_err-from_yo-clause-date c = search rules

pub returns-in_err-from_yo-clause-exists : goal.returns-in_err-from_yo-clause-exists
returns-in_err-from_yo-clause-exists c = (given_yo c.from_residual.result c.args.year c.args.ordinal (returns-in_err-from_yo-clause-date c)).0

-- ---- and where there is one

pub returns-clause-date : goal.returns-clause-date
returns-clause-date c = search rules

pub returns-clause-exists : goal.returns-clause-exists
returns-clause-exists c = (given_yo (Some c.in_ok-from_yo.field-0) c.args.year c.args.ordinal (returns-clause-date c)).0

pub returns-clause-year : goal.returns-clause-year
returns-clause-year c = (given_yo (Some c.in_ok-from_yo.field-0) c.args.year c.args.ordinal (returns-clause-date c)).1

pub returns-clause-ordinal : goal.returns-clause-ordinal
returns-clause-ordinal c = (given_yo (Some c.in_ok-from_yo.field-0) c.args.year c.args.ordinal (returns-clause-date c)).2
