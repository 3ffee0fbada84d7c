-- No byte so far is the one looked for.
use Rattle.std.proofs.Common.{◌≢◌, ◌≤◌, ◌-◌, All, length, take}
use Rattle.chrono_text.proofs.search.first_from.Given as goal

abbrev pub invariant-loop-at : goal.invariant-loop-at
invariant-loop-at l = (l.at ≤ length l.bytes) × All (λ x. x ≢ l.fn.stop) (take l.at l.bytes)

abbrev pub decreases-loop-at : goal.decreases-loop-at
decreases-loop-at l = length l.bytes - l.at
