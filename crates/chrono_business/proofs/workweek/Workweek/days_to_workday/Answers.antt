use Rattle.std.proofs.Common.{arith}
use Rattle.chrono_datetime.specs.Recurrence.{first_date}
use Rattle.chrono_datetime.proofs.CountWhere.{count_where-le}
use Rattle.chrono_business.specs.OpenDays.{is_workday}
use Rattle.chrono_business.proofs.workweek.Workweek.days_to_workday.Goals as goal

pub bounds-self-inside-place : goal.bounds-self-inside-place
bounds-self-inside-place c = omega (arith, c.requires, count_where-le (is_workday c.args.self.now) 7 first_date)
