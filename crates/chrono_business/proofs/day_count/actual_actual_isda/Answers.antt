use Rattle.std.proofs.Common.{◌∙◌, sym, arith}
use Rattle.chrono_datetime.proofs.Signed.{casts}
use Rattle.chrono_business.proofs.LeapDayCounts.{actual_actual-is}
use Rattle.chrono_business.proofs.day_count.actual_actual_isda.Goals as goal

pub returns-clause-numerator : goal.returns-clause-numerator
returns-clause-numerator c =
    let to = c.leap_days_before.ensures in
    let from = c.leap_days_before-2.ensures in
    omega (arith, casts, c.days_between.ensures.value, c.days_between.ensures.low, c.days_between.ensures.high, to.value, to.low, to.high, from.value, from.low, from.high)
    ∙ sym (actual_actual-is c.args.from c.args.to)
