-- No day behind the end is in the recurrence.
use Rattle.std.proofs.Common.{◌≡◌, false, ℤ, ◌≤ℤ◌, ◌<ℤ◌}
use Rattle.chrono_datetime.specs.Recurrence.{dates_before}
use Rattle.chrono_rules.specs.RecurrenceSets.{is_in_recurrence}
use Rattle.chrono_rules.proofs.search.recurrence.Recurrence.prev_before.Given as goal

abbrev pub invariant-loop-found : goal.invariant-loop-found
invariant-loop-found l = (l.end ≤ℤ l.fn.day) × ((d : ℤ) → l.end ≤ℤ d → d <ℤ l.fn.day → is_in_recurrence l.self d ≡ false)

abbrev pub decreases-loop-found : goal.decreases-loop-found
decreases-loop-found l = dates_before l.end
