use Rattle.std.proofs.Common.{Some, rules, ◌∙◌}
use Rattle.chrono_calendar.proofs.GivenWeekdays.{given_nth_weekday, first_four, nth_weekday-named}
use Rattle.chrono_naive.proofs.naive_date.NaiveDate.from_weekday_of_month_opt.Goals as goal

-- ---- where there is no such date

pub returns-in_err-nth_weekday-clause-date : goal.returns-in_err-nth_weekday-clause-date
returns-in_err-nth_weekday-clause-date c = search rules

pub returns-in_err-nth_weekday-clause-exists : goal.returns-in_err-nth_weekday-clause-exists
returns-in_err-nth_weekday-clause-exists c = (given_nth_weekday c.from_residual.result c.args.year c.args.month c.args.n c.args.weekday (returns-in_err-nth_weekday-clause-date c)).0

pub returns-in_err-nth_weekday-clause-first_four : goal.returns-in_err-nth_weekday-clause-first_four
returns-in_err-nth_weekday-clause-first_four c =
    λ year month n. (returns-in_err-nth_weekday-clause-exists c).1 (year, month, first_four c.args.year c.args.month c.args.n c.args.weekday n)

pub returns-in_err-nth_weekday-clause-only : goal.returns-in_err-nth_weekday-clause-only
returns-in_err-nth_weekday-clause-only c =
    λ e known year month weekday low high. returns-in_err-nth_weekday-clause-date c ∙ nth_weekday-named e c.args.year c.args.month c.args.n c.args.weekday known year month weekday low high

-- ---- and where there is one

pub returns-clause-date : goal.returns-clause-date
returns-clause-date c = search rules

pub returns-clause-exists : goal.returns-clause-exists
returns-clause-exists c = (given_nth_weekday (Some c.in_ok-nth_weekday.field-0) c.args.year c.args.month c.args.n c.args.weekday (returns-clause-date c)).0

pub returns-clause-year : goal.returns-clause-year
returns-clause-year c = (given_nth_weekday (Some c.in_ok-nth_weekday.field-0) c.args.year c.args.month c.args.n c.args.weekday (returns-clause-date c)).1

pub returns-clause-month : goal.returns-clause-month
returns-clause-month c = (given_nth_weekday (Some c.in_ok-nth_weekday.field-0) c.args.year c.args.month c.args.n c.args.weekday (returns-clause-date c)).2

pub returns-clause-weekday : goal.returns-clause-weekday
returns-clause-weekday c = (given_nth_weekday (Some c.in_ok-nth_weekday.field-0) c.args.year c.args.month c.args.n c.args.weekday (returns-clause-date c)).3

pub returns-clause-after : goal.returns-clause-after
returns-clause-after c = (given_nth_weekday (Some c.in_ok-nth_weekday.field-0) c.args.year c.args.month c.args.n c.args.weekday (returns-clause-date c)).4.0

pub returns-clause-up_to : goal.returns-clause-up_to
returns-clause-up_to c = (given_nth_weekday (Some c.in_ok-nth_weekday.field-0) c.args.year c.args.month c.args.n c.args.weekday (returns-clause-date c)).4.1

pub returns-clause-only : goal.returns-clause-only
returns-clause-only c =
    λ e known year month weekday low high. returns-clause-date c ∙ nth_weekday-named e c.args.year c.args.month c.args.n c.args.weekday known year month weekday low high
