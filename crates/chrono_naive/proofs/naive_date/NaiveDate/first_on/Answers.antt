use Rattle.std.proofs.Common.{Some, ◌∙◌, rules}
use Rattle.chrono_calendar.proofs.FirstOn.{date_on-start, if_on, if_larger, if_none_on}
use Rattle.chrono_naive.proofs.FirstSoon.{exists_soon, if_within_two}
use Rattle.chrono_naive.proofs.naive_date.NaiveDate.first_on.Goals as goal

-- ---- where there is no such date

pub returns-in_err-first_on-clause-date : goal.returns-in_err-first_on-clause-date
returns-in_err-first_on-clause-date c = search rules

pub returns-in_err-first_on-clause-none : goal.returns-in_err-first_on-clause-none
returns-in_err-first_on-clause-none c =
    if_none_on c.from_residual.result c.args.self c.args.set (rw c.day_number.ensures.value at c.day_number.ensures.in_range) (returns-in_err-first_on-clause-date c)

pub returns-in_err-first_on-clause-exists : goal.returns-in_err-first_on-clause-exists
returns-in_err-first_on-clause-exists c =
    exists_soon c.from_residual.result c.args.self c.args.set (rw c.day_number.ensures.value at c.day_number.ensures.in_range) (returns-in_err-first_on-clause-none c)

pub returns-in_err-first_on-clause-start : goal.returns-in_err-first_on-clause-start
returns-in_err-first_on-clause-start c =
    λ member. returns-in_err-first_on-clause-date c ∙ date_on-start c.args.self c.args.set (rw c.day_number.ensures.value at c.day_number.ensures.in_range) member

-- ---- and where there is one

pub returns-clause-date : goal.returns-clause-date
returns-clause-date c = search rules

pub returns-clause-member : goal.returns-clause-member
returns-clause-member c = (if_on (Some c.in_ok-first_on.field-0) c.args.self c.args.set (rw c.day_number.ensures.value at c.day_number.ensures.in_range) (returns-clause-date c)).0

pub returns-clause-least : goal.returns-clause-least
returns-clause-least c = (if_on (Some c.in_ok-first_on.field-0) c.args.self c.args.set (rw c.day_number.ensures.value at c.day_number.ensures.in_range) (returns-clause-date c)).1

pub returns-clause-not_before : goal.returns-clause-not_before
returns-clause-not_before c = (if_on (Some c.in_ok-first_on.field-0) c.args.self c.args.set (rw c.day_number.ensures.value at c.day_number.ensures.in_range) (returns-clause-date c)).2

pub returns-clause-near : goal.returns-clause-near
returns-clause-near c = (if_on (Some c.in_ok-first_on.field-0) c.args.self c.args.set (rw c.day_number.ensures.value at c.day_number.ensures.in_range) (returns-clause-date c)).3

pub returns-clause-within_two : goal.returns-clause-within_two
returns-clause-within_two c = λ five. if_within_two (Some c.in_ok-first_on.field-0) c.args.self c.args.set five (returns-clause-least c) (returns-clause-not_before c) (returns-clause-near c)

pub returns-clause-again : goal.returns-clause-again
returns-clause-again c = (if_on (Some c.in_ok-first_on.field-0) c.args.self c.args.set (rw c.day_number.ensures.value at c.day_number.ensures.in_range) (returns-clause-date c)).4

pub returns-clause-start : goal.returns-clause-start
returns-clause-start c =
    λ member. returns-clause-date c ∙ date_on-start c.args.self c.args.set (rw c.day_number.ensures.value at c.day_number.ensures.in_range) member

pub returns-clause-larger : goal.returns-clause-larger
returns-clause-larger c =
    if_larger (Some c.in_ok-first_on.field-0) c.args.self c.args.set (rw c.day_number.ensures.value at c.day_number.ensures.in_range) (returns-clause-date c)
