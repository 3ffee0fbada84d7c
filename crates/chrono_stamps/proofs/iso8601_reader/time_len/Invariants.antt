-- The bytes so far are of a time.
use Rattle.std.proofs.Common.{◌≡◌, ◌-◌, ◌<◌, ◌≤◌, ℕ, true, get_or, length}
use Rattle.chrono_stamps.specs.Iso8601.{is_of_time}
use Rattle.chrono_stamps.proofs.iso8601_reader.time_len.Given as goal

abbrev pub invariant-loop-len : goal.invariant-loop-len
invariant-loop-len l = record {
  within : l.len ≤ length l.text;
  time : (k : ℕ) → k < l.len → is_of_time (get_or l.text k 0) ≡ true;
}

abbrev pub decreases-loop-len : goal.decreases-loop-len
decreases-loop-len l = length l.text - l.len
