use Rattle.std.proofs.Common.{suc, pos, arith}
use Rattle.chrono_calendar.proofs.Signed.{signed}
use Rattle.chrono_calendar.proofs.Years.{days_before_year-next, days_before_year-closed}
use Rattle.chrono_internals.proofs.LeapYears.{days_before_year-natural}
use Rattle.chrono_internals.proofs.cycle.yo_to_cycle.Goals as goal

pub returns-clause-place : goal.returns-clause-place
returns-clause-place c = omega (arith, signed, days_before_year-natural c.args.year)

pub returns-clause-in_range : goal.returns-clause-in_range
returns-clause-in_range c =
    let year = c.args.year in
    omega (arith, signed, days_before_year-natural year, days_before_year-next (pos year) (pos (suc year)) (omega (arith, signed)), days_before_year-closed (pos (suc year)))
