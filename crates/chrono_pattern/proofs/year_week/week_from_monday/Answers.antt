use Rattle.std.proofs.Common.{ap, arith}
use Rattle.chrono_datetime.specs.Weekday.{days_from_monday}
use Rattle.chrono_pattern.proofs.YearWeekLemmas.{ordinal_bounds, week_from_monday_is}
use Rattle.chrono_pattern.proofs.year_week.week_from_monday.Goals as goal

pub returns-clause-value : goal.returns-clause-value
returns-clause-value c =
    let weekday = ap days_from_monday c.weekday.ensures.value in
    omega (arith, c.ordinal.ensures.value, weekday, c.num_days_from_monday.ensures, week_from_monday_is c.args.date)

pub returns-clause-few : goal.returns-clause-few
returns-clause-few c = omega (arith, c.ordinal.ensures.value, ordinal_bounds c.args.date)
