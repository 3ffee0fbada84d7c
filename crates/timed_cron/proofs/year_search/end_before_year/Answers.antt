use Rattle.std.proofs.Common.{arith}
use Rattle.chrono_datetime.proofs.Signed.{signed, casts}
use Rattle.timed_cron.proofs.YearSteps.{after_end, all_after_end}
use Rattle.timed_cron.proofs.year_search.end_before_year.Goals as goal

pub returns-clause-after : goal.returns-clause-after
returns-clause-after c = λ q at later.
    let first = c.first_of_year in
    let date = after_end first.result c.day_before.result q c.day_before.ensures at (rw c.end_of_day.ensures at later) in
    omega (arith, signed, casts, c.ranges.year.sfits, first.ensures.from q.date date)

pub returns-clause-all : goal.returns-clause-all
returns-clause-all c = λ q at year.
    let first = c.first_of_year in
    rw c.end_of_day.ensures (all_after_end first.result c.day_before.result q c.day_before.ensures (first.ensures.all q.date (omega (arith, signed, casts, c.ranges.year.sfits, year))))
