use Rattle.std.proofs.Common.{pos, ◌+ℤ◌, None, arith, rules, ◌∙◌}
use Rattle.chrono_calendar.proofs.Dates.{date_of_day-SomeIff}
use Rattle.chrono_calendar.proofs.Signed.{casts}
use Rattle.chrono_naive.proofs.DayMoves.{IsSome-date_of_day}
use Rattle.chrono_naive.proofs.naive_date.NaiveDate.from_epoch_days.Goals as goal

-- ---- where the sum is no machine number

pub returns-in_err-checked_add-clause-date : goal.returns-in_err-checked_add-clause-date
returns-in_err-checked_add-clause-date c =
    c.from_residual.ensures ∙ date_of_day-SomeIff None (c.args.days +ℤ pos 719_163)
    (λ h. absurd (c.in_err-checked_add.ensures (omega (arith, casts, h.0, h.1))))

pub returns-in_err-checked_add-clause-exists : goal.returns-in_err-checked_add-clause-exists
returns-in_err-checked_add-clause-exists c = IsSome-date_of_day _ (c.args.days +ℤ pos 719_163) (returns-in_err-checked_add-clause-date c)

-- ---- and where it is one

pub returns-clause-date : goal.returns-clause-date
returns-clause-date c = search rules

pub returns-clause-exists : goal.returns-clause-exists
returns-clause-exists c = IsSome-date_of_day _ (c.args.days +ℤ pos 719_163) (returns-clause-date c)
