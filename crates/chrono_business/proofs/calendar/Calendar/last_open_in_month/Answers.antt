use Rattle.std.proofs.Common.{arith}
use Rattle.chrono_datetime.proofs.Signed.{signed}
use Rattle.chrono_business.proofs.RollLemmas.{begins_closed-early, begins_closed-no_last, last-in_month}
use Rattle.chrono_business.proofs.calendar.Calendar.last_open_in_month.Goals as goal

pub returns-in_err-last-clause-none : goal.returns-in_err-last-clause-none
returns-in_err-last-clause-none c =
    rw c.from_residual.ensures (begins_closed-no_last c.args.self.now c.args.date (rw c.num_days_from_ce.ensures.value at c.num_days_from_ce.ensures.in_range) c.in_err-last.ensures.none)

pub returns-then-num_days_from_ce-clause-none : goal.returns-then-num_days_from_ce-clause-none
returns-then-num_days_from_ce-clause-none c =
    begins_closed-early c.args.self.now c.args.date c.in_ok-last.last c.in_ok-last.ensures.greatest (omega (arith, signed, c.if-num_days_from_ce.true, c.num_days_from_ce-2.ensures.value, c.num_days_from_ce-3.ensures.value, c.first_day_of_month.ensures.first))

pub returns-clause-month : goal.returns-clause-month
returns-clause-month c =
    last-in_month c.args.self.now c.args.date c.in_ok-last.last c.in_ok-last.ensures.not_after (omega (arith, signed, c.if-num_days_from_ce.false, c.num_days_from_ce-2.ensures.value, c.num_days_from_ce-3.ensures.value, c.first_day_of_month.ensures.first))
