-- No day so far is one of the schedule's.
use Rattle.std.proofs.Common.{◌≡◌, false, ℤ, ◌≤ℤ◌, ◌<ℤ◌}
use Rattle.chrono_datetime.specs.Recurrence.{dates_left}
use Rattle.chrono_cron.specs.Due.{is_day}
use Rattle.chrono_cron.proofs.field_sets.FieldSets.first_day_up_to.Given as goal

abbrev pub invariant-loop-last : goal.invariant-loop-last
invariant-loop-last l = (l.fn.date ≤ℤ l.month) × ((d : ℤ) → l.fn.date ≤ℤ d → d <ℤ l.month → is_day l.self d ≡ false)

abbrev pub decreases-loop-last : goal.decreases-loop-last
decreases-loop-last l = dates_left l.month
