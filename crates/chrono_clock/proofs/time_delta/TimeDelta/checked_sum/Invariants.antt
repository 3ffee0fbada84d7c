use Rattle.std.proofs.Common.{◌≡◌}
use Rattle.chrono_clock.specs.Duration.{total, StaysInRange}
use Rattle.chrono_clock.proofs.time_delta.TimeDelta.checked_sum.Given as goal

abbrev pub invariant-loop-duration : goal.invariant-loop-duration
invariant-loop-duration g l = record { in_range : StaysInRange l.yielded; sum_is : l.sum ≡ total l.yielded }
