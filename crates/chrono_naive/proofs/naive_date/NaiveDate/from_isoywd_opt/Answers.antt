use Rattle.std.proofs.Common.{Some, rules}
use Rattle.chrono_calendar.proofs.GivenNames.{given_iso, iso_days_inside, weeks_of_iso_year-range}
use Rattle.chrono_naive.proofs.IsoYears.{first_exists, if_before, if_first}
use Rattle.chrono_naive.proofs.naive_date.NaiveDate.from_isoywd_opt.Goals as goal

-- ---- where there is no such date

pub returns-in_err-from_iso-clause-date : goal.returns-in_err-from_iso-clause-date
returns-in_err-from_iso-clause-date c = search rules

pub returns-in_err-from_iso-clause-exists : goal.returns-in_err-from_iso-clause-exists
returns-in_err-from_iso-clause-exists c = (given_iso c.from_residual.result c.args.year c.args.week c.args.weekday (returns-in_err-from_iso-clause-date c)).0

pub returns-in_err-from_iso-clause-inside : goal.returns-in_err-from_iso-clause-inside
returns-in_err-from_iso-clause-inside c =
    λ low high week. (returns-in_err-from_iso-clause-exists c).1 (week, iso_days_inside c.args.year c.args.week c.args.weekday low high week)

pub returns-in_err-from_iso-clause-weeks : goal.returns-in_err-from_iso-clause-weeks
returns-in_err-from_iso-clause-weeks c = weeks_of_iso_year-range c.args.year

pub returns-in_err-from_iso-clause-first_exists : goal.returns-in_err-from_iso-clause-first_exists
returns-in_err-from_iso-clause-first_exists c =
    λ one monday. first_exists c.from_residual.result c.args.year c.args.week c.args.weekday one monday (returns-in_err-from_iso-clause-exists c)

-- ---- and where there is one

pub returns-clause-date : goal.returns-clause-date
returns-clause-date c = search rules

pub returns-clause-exists : goal.returns-clause-exists
returns-clause-exists c = (given_iso (Some c.in_ok-from_iso.field-0) c.args.year c.args.week c.args.weekday (returns-clause-date c)).0

pub returns-clause-year : goal.returns-clause-year
returns-clause-year c = (given_iso (Some c.in_ok-from_iso.field-0) c.args.year c.args.week c.args.weekday (returns-clause-date c)).1

pub returns-clause-week : goal.returns-clause-week
returns-clause-week c = (given_iso (Some c.in_ok-from_iso.field-0) c.args.year c.args.week c.args.weekday (returns-clause-date c)).2

pub returns-clause-weekday : goal.returns-clause-weekday
returns-clause-weekday c = (given_iso (Some c.in_ok-from_iso.field-0) c.args.year c.args.week c.args.weekday (returns-clause-date c)).3

pub returns-clause-weeks : goal.returns-clause-weeks
returns-clause-weeks c = weeks_of_iso_year-range c.args.year

pub returns-clause-first : goal.returns-clause-first
returns-clause-first c =
    λ one monday. if_first (Some c.in_ok-from_iso.field-0) c.args.year c.args.week c.args.weekday one monday (returns-clause-year c) (returns-clause-week c) (returns-clause-weekday c)

pub returns-clause-before : goal.returns-clause-before
returns-clause-before c =
    λ one monday. if_before (Some c.in_ok-from_iso.field-0) c.args.year c.args.week c.args.weekday one monday (returns-clause-year c) (returns-clause-week c) (returns-clause-weekday c)

pub returns-clause-first_exists : goal.returns-clause-first_exists
returns-clause-first_exists c =
    λ one monday. first_exists (Some c.in_ok-from_iso.field-0) c.args.year c.args.week c.args.weekday one monday (returns-clause-exists c)
