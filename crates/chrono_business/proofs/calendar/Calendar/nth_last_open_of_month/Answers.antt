use Rattle.std.proofs.Common.{ℕ, arith, pos, ◌+ℤ◌}
use Rattle.chrono_datetime.specs.MonthMoves.{month_first_of, month_last_of}
use Rattle.chrono_datetime.proofs.Signed.{signed}
use Rattle.chrono_business.specs.OpenDays.{open_days}
use Rattle.chrono_business.proofs.MonthDayCounts.{exists-none, exists-some, few-none_back, few-nth_before, many-nth_back, month-nth_back}
use Rattle.chrono_business.proofs.calendar.Calendar.nth_last_open_of_month.Goals as goal

pub returns-in_err-nth-clause-none : goal.returns-in_err-nth-clause-none
returns-in_err-nth-clause-none c =
    rw c.from_residual.ensures (few-none_back c.args.self.now c.args.date c.args.n (rw c.first_day_of_month-first.ensures.first at c.first_day_of_month-first.ensures.in_range) (rw c.last_day_of_month.ensures.last at c.in_err-nth.ensures.none))

pub returns-then-num_days_from_ce-clause-none : goal.returns-then-num_days_from_ce-clause-none
returns-then-num_days_from_ce-clause-none c =
    few-nth_before c.args.self.now c.args.date c.in_ok-nth.nth c.args.n (rw c.last_day_of_month.ensures.last at c.in_ok-nth.ensures.nth) (omega (arith, signed, c.if-num_days_from_ce.true, c.num_days_from_ce.ensures.value, c.num_days_from_ce-2.ensures.value, c.first_day_of_month-first.ensures.first))

pub returns-clause-month : goal.returns-clause-month
returns-clause-month c =
    month-nth_back c.args.self.now c.args.date c.in_ok-nth.nth c.args.n (rw c.last_day_of_month.ensures.last at c.in_ok-nth.ensures.nth) (omega (arith, signed, c.if-num_days_from_ce.false, c.num_days_from_ce.ensures.value, c.num_days_from_ce-2.ensures.value, c.first_day_of_month-first.ensures.first))

pub returns-in_err-nth-clause-exists : goal.returns-in_err-nth-clause-exists
returns-in_err-nth-clause-exists c =
    let days : ℕ = open_days c.args.self.now (month_first_of c.args.date) (month_last_of c.args.date +ℤ pos 1) in
    rw c.from_residual.ensures (exists-none c.args.n days (few-none_back c.args.self.now c.args.date c.args.n (rw c.first_day_of_month-first.ensures.first at c.first_day_of_month-first.ensures.in_range) (rw c.last_day_of_month.ensures.last at c.in_err-nth.ensures.none)))

pub returns-then-num_days_from_ce-clause-exists : goal.returns-then-num_days_from_ce-clause-exists
returns-then-num_days_from_ce-clause-exists c =
    let days : ℕ = open_days c.args.self.now (month_first_of c.args.date) (month_last_of c.args.date +ℤ pos 1) in
    exists-none c.args.n days (few-nth_before c.args.self.now c.args.date c.in_ok-nth.nth c.args.n (rw c.last_day_of_month.ensures.last at c.in_ok-nth.ensures.nth) (omega (arith, signed, c.if-num_days_from_ce.true, c.num_days_from_ce.ensures.value, c.num_days_from_ce-2.ensures.value, c.first_day_of_month-first.ensures.first)))

pub returns-clause-exists : goal.returns-clause-exists
returns-clause-exists c =
    let days : ℕ = open_days c.args.self.now (month_first_of c.args.date) (month_last_of c.args.date +ℤ pos 1) in
    exists-some c.in_ok-nth.nth c.args.n days (many-nth_back c.args.self.now c.args.date c.in_ok-nth.nth c.args.n (rw c.last_day_of_month.ensures.last at c.in_ok-nth.ensures.nth) (omega (arith, signed, c.if-num_days_from_ce.false, c.num_days_from_ce.ensures.value, c.num_days_from_ce-2.ensures.value, c.first_day_of_month-first.ensures.first)))
