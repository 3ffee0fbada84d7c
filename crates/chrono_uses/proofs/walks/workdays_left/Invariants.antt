-- What is counted and what is left make the whole.
use Rattle.std.proofs.Common.{◌≡◌, ◌+◌, ◌≤◌, length, count_by}
use Rattle.chrono_datetime.specs.DateLists.{days_from}
use Rattle.chrono_uses.specs.Workdays.{is_day_of_work}
use Rattle.chrono_uses.proofs.walks.workdays_left.Given as goal

abbrev pub invariant-loop-day : goal.invariant-loop-day
invariant-loop-day l =
    (goal.iterator-loop-day).can_next l.day-iterator
    × (goal.iterator-loop-day).is_finite l.day-iterator
    × (l.count + length (days_from l.day-iterator) ≤ length (days_from l.fn.date))
    × (l.count + count_by (λ n. is_day_of_work l.week n) (days_from l.day-iterator) ≡ count_by (λ n. is_day_of_work l.week n) (days_from l.fn.date))
