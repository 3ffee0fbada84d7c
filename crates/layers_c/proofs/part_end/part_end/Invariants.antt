-- No byte so far stands behind the part.
use Rattle.std.proofs.Common.{◌≡◌, ◌≤◌, ◌<◌, ◌-◌, ℕ, false, length}
use Rattle.std.specs.Prelude.{slice_index}
use Rattle.layers_c.specs.Faults.{is_behind_part}
use Rattle.layers_c.proofs.part_end.part_end.Given as goal

abbrev pub invariant-loop-end : goal.invariant-loop-end
invariant-loop-end l =
    (l.from ≤ l.end) × (l.end ≤ length l.text) × ((i : ℕ) → l.from ≤ i → i < l.end → is_behind_part (slice_index l.text i) ≡ false)

abbrev pub decreases-loop-end : goal.decreases-loop-end
decreases-loop-end l = length l.text - l.end
