-- No day so far is one of the schedule's.
use Rattle.std.proofs.Common.{◌≡◌, false, ℤ, ◌≤ℤ◌, ◌<ℤ◌}
use Rattle.chrono_datetime.specs.Recurrence.{dates_before}
use Rattle.chrono_cron.specs.Due.{is_day}
use Rattle.chrono_cron.proofs.field_sets.FieldSets.last_day_down_to.Given as goal

abbrev pub invariant-loop-first : goal.invariant-loop-first
invariant-loop-first l = (l.month ≤ℤ l.fn.date) × ((d : ℤ) → l.month <ℤ d → d ≤ℤ l.fn.date → is_day l.self d ≡ false)

abbrev pub decreases-loop-first : goal.decreases-loop-first
decreases-loop-first l = dates_before l.month
