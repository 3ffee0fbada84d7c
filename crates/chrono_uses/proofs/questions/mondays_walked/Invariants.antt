-- What is counted is the count of the days so far.
use Rattle.std.proofs.Common.{◌≡◌, ◌≤ℤ◌, ◌-ℤ◌, unsigned_abs}
use Rattle.chrono_datetime.specs.Recurrence.{count_where, dates_left, is_on}
use Rattle.chrono_datetime.specs.WeekdaySet.{single}
use Rattle.chrono_datetime.specs.declared.Weekday.TheVariants.{Mon}
use Rattle.chrono_uses.proofs.questions.mondays_walked.Given as goal

abbrev pub invariant-loop-day : goal.invariant-loop-day
invariant-loop-day l =
    (l.fn.from ≤ℤ l.days) × (l.fn.from ≤ℤ l.fn.to → l.days ≤ℤ l.fn.to)
    × (l.mondays ≡ count_where (is_on (single Mon)) (unsigned_abs (l.days -ℤ l.fn.from)) l.fn.from)

abbrev pub decreases-loop-day : goal.decreases-loop-day
decreases-loop-day l = dates_left l.days
