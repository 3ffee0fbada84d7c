use Rattle.std.proofs.Common.{ℕ, ◌+◌, ◌-◌, ◌<◌, ◌≤◌, length}
use Rattle.zone_table.specs.Table.{RowFollows}
use Rattle.zone_table.proofs.order.first_unordered.Given as goal

abbrev pub decreases-loop-place : goal.decreases-loop-place
decreases-loop-place l = length l.rows - l.place

abbrev pub invariant-loop-place : goal.invariant-loop-place
invariant-loop-place l = (1 ≤ l.place) × ((k : ℕ) → k + 1 < l.place → RowFollows l.fn.first l.rows k)
