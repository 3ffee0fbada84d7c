-- The words from `count` on have no digit.
use Rattle.std.proofs.Common.{◌≡◌, ℕ, ◌≤◌}
use Rattle.std.specs.Prelude.{slice_index_or}
use Rattle.chrono_sets.proofs.place_set.PlaceSet.last.Given as goal

abbrev pub invariant-loop-count : goal.invariant-loop-count
invariant-loop-count l = (l.count ≤ 6) × ((i : ℕ) → l.count ≤ i → slice_index_or l.self-inside.words i 0 ≡ 0)

abbrev pub decreases-loop-count : goal.decreases-loop-count
decreases-loop-count l = l.count
