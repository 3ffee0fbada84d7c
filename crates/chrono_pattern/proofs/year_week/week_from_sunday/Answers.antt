use Rattle.std.proofs.Common.{ap, arith}
use Rattle.chrono_datetime.specs.Weekday.{days_from_sunday}
use Rattle.chrono_pattern.proofs.YearWeekLemmas.{ordinal_bounds, week_from_sunday_is}
use Rattle.chrono_pattern.proofs.year_week.week_from_sunday.Goals as goal

pub returns-clause-value : goal.returns-clause-value
returns-clause-value c =
    let weekday = ap days_from_sunday c.weekday.ensures.value in
    omega (arith, c.ordinal.ensures.value, weekday, c.num_days_from_sunday.ensures, week_from_sunday_is c.args.date)

pub returns-clause-few : goal.returns-clause-few
returns-clause-few c = omega (arith, c.ordinal.ensures.value, ordinal_bounds c.args.date)
