use Rattle.std.proofs.Common.{◌∙◌, ap, arith}
use Rattle.chrono_datetime.specs.WeekdaySet.{DaySet}
use Rattle.chrono_datetime.specs.Recurrence.{count_where, first_date}
use Rattle.chrono_datetime.proofs.CountWhere.{count_where-le}
use Rattle.chrono_business.specs.OpenDays.{is_workday}
use Rattle.chrono_business.proofs.workweek.Workweek.first_workdays.Goals as goal

pub returns-clause-counted : goal.returns-clause-counted
returns-clause-counted c =
    c.from.ensures
    ∙ (c.self.invariant.0 c.args.days 0 c.requires ∙ ap (λ (weekend : DaySet). count_where (is_workday weekend) c.args.days first_date) c.self.view_is)

pub returns-clause-few : goal.returns-clause-few
returns-clause-few c = omega (arith, returns-clause-counted c, count_where-le (is_workday c.args.self.now) c.args.days first_date)
