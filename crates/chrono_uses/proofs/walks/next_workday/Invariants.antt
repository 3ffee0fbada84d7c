-- No day so far is worked.
use Rattle.std.proofs.Common.{◌≡◌, false, ℤ, ◌≤ℤ◌, ◌<ℤ◌}
use Rattle.chrono_datetime.specs.Recurrence.{dates_left}
use Rattle.chrono_uses.specs.Workdays.{is_day_of_work}
use Rattle.chrono_uses.proofs.walks.next_workday.Given as goal

abbrev pub invariant-loop-day : goal.invariant-loop-day
invariant-loop-day l =
    (l.fn.date ≤ℤ l.days) × ((d : ℤ) → l.fn.date ≤ℤ d → d <ℤ l.days → is_day_of_work l.week d ≡ false)

abbrev pub decreases-loop-day : goal.decreases-loop-day
decreases-loop-day l = dates_left l.days
