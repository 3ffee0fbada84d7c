use Rattle.std.proofs.Common.{◌≡◌, ℕ, ◌≤◌}
use Rattle.zone_table.specs.Table.{offset_after}
use Rattle.zone_table.proofs.changes.change_before.Given as goal

abbrev pub decreases-loop-place : goal.decreases-loop-place
decreases-loop-place l = l.place

abbrev pub invariant-loop-place : goal.invariant-loop-place
invariant-loop-place l = (l.place ≤ l.fn.count)
    × ((k : ℕ) → l.place ≤ k → k ≤ l.fn.count → offset_after l.fn.first l.rows k ≡ offset_after l.fn.first l.rows l.fn.count)
