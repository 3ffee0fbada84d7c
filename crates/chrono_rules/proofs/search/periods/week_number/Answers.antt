use Rattle.std.proofs.Common.{arith}
use Rattle.chrono_datetime.proofs.IsoWeeks.{days_from_monday-of}
use Rattle.chrono_datetime.proofs.Signed.{casts}
use Rattle.chrono_datetime.proofs.WeekdayCycle.{days_from_monday-lt}
use Rattle.chrono_rules.proofs.search.periods.week_number.Goals as goal

pub returns-clause-value : goal.returns-clause-value
returns-clause-value c =
    omega (arith, casts, c.num_days_from_ce.ensures.value, c.num_days_from_ce.ensures.in_range, c.num_days_from_sunday.ensures, days_from_monday-of c.args.date, days_from_monday-lt c.args.start)
