use Rattle.std.proofs.Common.{◌-◌, ◌≤◌, length}
use Rattle.zone_table.specs.Sequence.{IsSameFrom}
use Rattle.zone_table.specs.Table.{offset_after}
use Rattle.zone_table.proofs.changes.change_from.Given as goal

abbrev pub decreases-loop-place : goal.decreases-loop-place
decreases-loop-place l = length l.rows - l.place

abbrev pub invariant-loop-place : goal.invariant-loop-place
invariant-loop-place l = (l.fn.count ≤ l.place) × (l.place ≤ length l.rows) × IsSameFrom (offset_after l.fn.first l.rows) l.fn.count l.place
