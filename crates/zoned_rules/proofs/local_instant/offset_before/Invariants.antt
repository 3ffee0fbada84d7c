-- Up to this second the clock shows earlier seconds than that of the gap.
use Rattle.std.proofs.Common.{pos, ◌+ℤ◌, ◌-ℤ◌, unsigned_abs}
use Rattle.zoned_rules.proofs.Standing.{IsWalked}
use Rattle.zoned_rules.proofs.local_instant.offset_before.Given as goal

abbrev pub invariant-loop-offset : goal.invariant-loop-offset
invariant-loop-offset g l = IsWalked (g.Z.TimeZone.ahead l.zone) l.fn.gap l.second l.offset

abbrev pub decreases-loop-offset : goal.decreases-loop-offset
decreases-loop-offset g l = unsigned_abs (l.fn.gap +ℤ pos 86_400 -ℤ l.second)
