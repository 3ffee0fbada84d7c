use Rattle.std.proofs.Common.{◌*◌, ◌/◌, ◌%◌, ap, arith}
use Rattle.chrono_datetime.specs.Recurrence.{first_date}
use Rattle.chrono_business.proofs.Workdays.{workdays-weeks}
use Rattle.chrono_business.proofs.workweek.Workweek.workdays.Goals as goal

pub returns-clause-counted : goal.returns-clause-counted
returns-clause-counted c =
    let k = c.args.days in
    omega (arith, workdays-weeks c.args.self.now (k / 7) (k % 7) k first_date (omega arith), ap (λ n. k / 7 * n) c.workdays_of_week.ensures.counted, c.first_workdays.ensures.counted)
