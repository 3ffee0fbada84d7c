-- The minutes so far agree.
use Rattle.std.proofs.Common.{◌≡◌, ℕ, ◌-◌, ◌<◌, ◌≤◌}
use Rattle.chrono_cron.specs.Due.{is_minute}
use Rattle.chrono_cron.proofs.search.same_minutes.have_same_minutes.Given as goal

abbrev pub invariant-loop-minute : goal.invariant-loop-minute
invariant-loop-minute l = (l.minute ≤ 1440) × ((k : ℕ) → k < l.minute → is_minute l.one k ≡ is_minute l.other k)

abbrev pub decreases-loop-minute : goal.decreases-loop-minute
decreases-loop-minute l = 1440 - l.minute
