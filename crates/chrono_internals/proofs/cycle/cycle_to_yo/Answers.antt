use Rattle.std.proofs.Common.{◌%◌, suc, pos, ◌-◌, ◌/◌, ◌≡◌, arith}
use Rattle.chrono_calendar.proofs.Signed.{signed}
use Rattle.chrono_calendar.proofs.Years.{year_length-leap_day}
use Rattle.chrono_internals.proofs.LeapYears.{leap_years_before-positive, leap_years_before-inside, leap_years_before-suc, days_before_year-natural}
use Rattle.chrono_internals.proofs.cycle.cycle_to_yo.Goals as goal

pub returns-then-rest-delta-clause-year : goal.returns-then-rest-delta-clause-year
returns-then-rest-delta-clause-year c = leap_years_before-inside (c.args.cycle / 365) (c.args.cycle % 365) (omega arith) (omega arith)

pub returns-then-rest-delta-clause-place : goal.returns-then-rest-delta-clause-place
returns-then-rest-delta-clause-place c = omega (arith, signed, days_before_year-natural (c.args.cycle / 365))

pub overflow_sub-previous : goal.overflow_sub-previous
overflow_sub-previous c = leap_years_before-positive (c.args.cycle / 365) (omega arith)

pub returns-clause-exists : goal.returns-clause-exists
returns-clause-exists c =
    let later = leap_years_before-positive (c.args.cycle / 365) (omega arith) in
    let next : suc (c.args.cycle / 365 - 1) ≡ c.args.cycle / 365 = omega arith in
    let step = rw next at (leap_years_before-suc (c.args.cycle / 365 - 1)) in
    omega (arith, year_length-leap_day (pos (c.args.cycle / 365 - 1)))

pub returns-clause-place : goal.returns-clause-place
returns-clause-place c =
    let later = leap_years_before-positive (c.args.cycle / 365) (omega arith) in
    omega (arith, signed, days_before_year-natural (c.args.cycle / 365 - 1))

pub returns-clause-taken : goal.returns-clause-taken
returns-clause-taken c =
    let later = leap_years_before-positive (c.args.cycle / 365) (omega arith) in
    omega arith
