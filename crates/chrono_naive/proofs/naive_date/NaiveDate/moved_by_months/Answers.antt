use Rattle.std.proofs.Common.{Some, ◌≡◌, ℤ, ◌+ℤ◌, pos, neg_ℤ, arith, rules}
use Rattle.chrono_calendar.proofs.MonthMoveLaws.{if_month, if_moved, month_move-exists}
use Rattle.chrono_calendar.proofs.Signed.{signed}
use Rattle.chrono_naive.proofs.naive_date.NaiveDate.moved_by_months.Goals as goal

none_left : (k : ℤ) → k +ℤ neg_ℤ k ≡ pos 0
none_left k = omega (arith, signed)

pub returns-in_err-move_months-clause-date : goal.returns-in_err-move_months-clause-date
returns-in_err-move_months-clause-date c = search rules

pub returns-in_err-move_months-clause-exists : goal.returns-in_err-move_months-clause-exists
returns-in_err-move_months-clause-exists c =
    month_move-exists c.from_residual.result c.args.self c.args.months (returns-in_err-move_months-clause-date c)

pub returns-clause-date : goal.returns-clause-date
returns-clause-date c = search rules

pub returns-clause-exists : goal.returns-clause-exists
returns-clause-exists c =
    month_move-exists (Some c.in_ok-move_months.field-0) c.args.self c.args.months (returns-clause-date c)

pub returns-clause-month : goal.returns-clause-month
returns-clause-month c =
    (if_month (Some c.in_ok-move_months.field-0) c.args.self c.args.months (returns-clause-date c)).0

pub returns-clause-day : goal.returns-clause-day
returns-clause-day c =
    (if_month (Some c.in_ok-move_months.field-0) c.args.self c.args.months (returns-clause-date c)).1

pub returns-clause-in_range : goal.returns-clause-in_range
returns-clause-in_range c = search rules

pub returns-clause-order : goal.returns-clause-order
returns-clause-order c =
    (if_moved (Some c.in_ok-move_months.field-0) c.args.self c.args.months (neg_ℤ c.args.months) (none_left c.args.months) (returns-clause-in_range c) (returns-clause-date c)).0

pub returns-clause-back : goal.returns-clause-back
returns-clause-back c =
    (if_moved (Some c.in_ok-move_months.field-0) c.args.self c.args.months (neg_ℤ c.args.months) (none_left c.args.months) (returns-clause-in_range c) (returns-clause-date c)).1

pub returns-clause-sum : goal.returns-clause-sum
returns-clause-sum c =
    (if_moved (Some c.in_ok-move_months.field-0) c.args.self c.args.months (neg_ℤ c.args.months) (none_left c.args.months) (returns-clause-in_range c) (returns-clause-date c)).2
