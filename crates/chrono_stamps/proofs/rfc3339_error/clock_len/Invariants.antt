-- The bytes so far are of a time of day.
use Rattle.std.proofs.Common.{◌≡◌, ◌-◌, ◌<◌, ◌≤◌, ℕ, true, get_or, length}
use Rattle.chrono_stamps.specs.StampErrors.{is_of_clock}
use Rattle.chrono_stamps.proofs.rfc3339_error.clock_len.Given as goal

abbrev pub invariant-loop-len : goal.invariant-loop-len
invariant-loop-len l = record {
  within : l.len ≤ length l.text;
  clock : (k : ℕ) → k < l.len → is_of_clock (get_or l.text k 0) ≡ true;
}

abbrev pub decreases-loop-len : goal.decreases-loop-len
decreases-loop-len l = length l.text - l.len
