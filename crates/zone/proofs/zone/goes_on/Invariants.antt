-- Up to this second the rule keeps the row's offset.
use Rattle.std.proofs.Common.{unsigned_abs}
use Rattle.zone.proofs.Joins.{IsKeptTo}
use Rattle.zone.proofs.zone.goes_on.Given as goal

abbrev pub invariant-loop-row : goal.invariant-loop-row
invariant-loop-row l = IsKeptTo l.row l.rule l.at l.left

abbrev pub decreases-loop-row : goal.decreases-loop-row
decreases-loop-row l = unsigned_abs l.left
