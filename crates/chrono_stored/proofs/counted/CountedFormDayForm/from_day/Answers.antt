use Rattle.std.proofs.Common.{Some, None, arith}
use Rattle.chrono_calendar.proofs.Signed.{casts}
use Rattle.chrono_calendar.proofs.Dates.{date_of_day-SomeIff}
use Rattle.chrono_stored.proofs.counted.CountedFormDayForm.from_day.Goals as goal
use Rattle.chrono_stored.proofs.counted.CountedFormDayForm.from_day.Goals.{then-days-lt-FIRST_DAY-via-then-days-lt-FIRST_DAY, then-days-lt-FIRST_DAY-via-else-days-lt-FIRST_DAY+then-days-gt-LAST_DAY}

pub returns-then-days-lt-FIRST_DAY-clause-date : goal.returns-then-days-lt-FIRST_DAY-clause-date
returns-then-days-lt-FIRST_DAY-clause-date c =
    date_of_day-SomeIff None c.args.days
    (λ h. elim c.then-days-lt-FIRST_DAY.branch [
      | then-days-lt-FIRST_DAY-via-then-days-lt-FIRST_DAY w ↦ absurd (omega (arith, casts))
      | then-days-lt-FIRST_DAY-via-else-days-lt-FIRST_DAY+then-days-gt-LAST_DAY w ↦ absurd (omega (arith, casts))
    ])

pub returns-clause-date : goal.returns-clause-date
returns-clause-date c = date_of_day-SomeIff (Some _) c.args.days ((omega (arith, casts), omega (arith, casts)), omega (arith, casts))
