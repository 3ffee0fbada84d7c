-- No byte so far is a digit from 1 to 9.
use Rattle.std.proofs.Common.{◌≡◌, ◌-◌, ◌<◌, ◌≤◌, ℕ, true, get_or, length}
use Rattle.chrono_reading.specs.DurationErrors.{is_nought}
use Rattle.chrono_reading.proofs.duration_error.noughts_in_front.Given as goal

abbrev pub invariant-loop-len : goal.invariant-loop-len
invariant-loop-len l = record {
  within : l.len ≤ length l.text;
  noughts : (k : ℕ) → k < l.len → is_nought (get_or l.text k 0) ≡ true;
}

abbrev pub decreases-loop-len : goal.decreases-loop-len
decreases-loop-len l = length l.text - l.len
