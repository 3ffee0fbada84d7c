use Rattle.std.proofs.Common.{arith}
use Rattle.chrono_datetime.proofs.Signed.{signed}
use Rattle.chrono_business.proofs.RollLemmas.{ends_closed-late, ends_closed-no_next, next-in_month}
use Rattle.chrono_business.proofs.calendar.Calendar.next_open_in_month.Goals as goal

pub returns-in_err-next-clause-none : goal.returns-in_err-next-clause-none
returns-in_err-next-clause-none c =
    rw c.from_residual.ensures (ends_closed-no_next c.args.self.now c.args.date (rw c.num_days_from_ce.ensures.value at c.num_days_from_ce.ensures.in_range) c.in_err-next.ensures.none)

pub returns-then-num_days_from_ce-clause-none : goal.returns-then-num_days_from_ce-clause-none
returns-then-num_days_from_ce-clause-none c =
    ends_closed-late c.args.self.now c.args.date c.in_ok-next.next c.in_ok-next.ensures.least (omega (arith, signed, c.if-num_days_from_ce.true, c.num_days_from_ce-2.ensures.value, c.num_days_from_ce-3.ensures.value, c.last_day_of_month.ensures.last))

pub returns-clause-month : goal.returns-clause-month
returns-clause-month c =
    next-in_month c.args.self.now c.args.date c.in_ok-next.next c.in_ok-next.ensures.not_before (omega (arith, signed, c.if-num_days_from_ce.false, c.num_days_from_ce-2.ensures.value, c.num_days_from_ce-3.ensures.value, c.last_day_of_month.ensures.last))
