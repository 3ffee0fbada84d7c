-- No byte so far is the one looked for, and those so far are marked, 64 at most.
use Rattle.std.proofs.Common.{◌≡◌, ◌≢◌, ◌≤◌, ◌-◌, All, length, min, take}
use Prim.Native.Nat.{◌%◌}
use Rattle.chrono_text.specs.Marks.{marks_of}
use Rattle.chrono_text.proofs.search.first_at.Given as goal

abbrev pub invariant-loop-at : goal.invariant-loop-at
invariant-loop-at l = record {
  within : l.at ≤ length l.bytes;
  before : All (λ x. x ≢ l.fn.stop) (take l.at l.bytes);
  whole : l.at % 16 ≡ 0;
  marked : l.marks ≡ marks_of (min l.at 64) l.bytes;
}

abbrev pub decreases-loop-at : goal.decreases-loop-at
decreases-loop-at l = length l.bytes - l.at
