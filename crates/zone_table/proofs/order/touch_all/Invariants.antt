use Rattle.std.proofs.Common.{ℕ, ◌-◌, ◌<◌, ◌≤◌, length}
use Rattle.chrono_zoned.specs.Offsets.{IsOffset}
use Rattle.zone_table.specs.Table.{offset_after}
use Rattle.zone_table.proofs.order.touch_all.Given as goal

abbrev pub decreases-loop-place : goal.decreases-loop-place
decreases-loop-place l = length l.rows - l.place

abbrev pub invariant-loop-place : goal.invariant-loop-place
invariant-loop-place l = (l.place ≤ length l.rows) × ((k : ℕ) → k < l.place → IsOffset (offset_after l.first l.rows k))
