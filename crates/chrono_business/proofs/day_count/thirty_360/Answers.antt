use Rattle.std.proofs.Common.{arith}
use Rattle.chrono_datetime.specs.Days.{month_of, year_of}
use Rattle.chrono_datetime.specs.Years.{is_leap_year}
use Rattle.chrono_datetime.proofs.MonthDays.{day_of-bounds}
use Rattle.chrono_datetime.proofs.MonthLengths.{month_length_in-bounds}
use Rattle.chrono_business.proofs.day_count.thirty_360.Goals as goal

pub days_of_360-requires-clause-last : goal.days_of_360-requires-clause-last
days_of_360-requires-clause-last c =
    let few = month_length_in-bounds (is_leap_year (year_of c.args.to)) (month_of c.args.to) in
    omega (arith, c.bond_last-last.ensures.few, c.day-2.ensures.value, day_of-bounds c.args.to, few.1)
