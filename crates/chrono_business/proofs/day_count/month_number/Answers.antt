use Rattle.std.proofs.Common.{arith}
use Rattle.chrono_datetime.proofs.Signed.{casts}
use Rattle.chrono_business.proofs.day_count.month_number.Goals as goal

pub returns-clause-value : goal.returns-clause-value
returns-clause-value c = omega (arith, casts, c.year.ensures.value, c.year.ensures.in_range, c.month.ensures.value)
