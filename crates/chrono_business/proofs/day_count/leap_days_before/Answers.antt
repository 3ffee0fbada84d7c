use Rattle.std.proofs.Common.{arith}
use Rattle.chrono_datetime.proofs.Signed.{casts}
use Rattle.chrono_business.specs.LeapDays.{leap_before}
use Rattle.chrono_business.proofs.day_count.leap_days_before.Goals as goal

pub returns-clause-value : goal.returns-clause-value
unfolding leap_before
returns-clause-value c =
    let years = c.leap_years_before.ensures in
    let days = c.leap_days_in_year.ensures in
    omega (arith, casts, years.value, years.low, years.high, days.value, days.low, days.high)
