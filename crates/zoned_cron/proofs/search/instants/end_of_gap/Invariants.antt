-- Of the instants so far, the one that shows the least local second behind the gap.
use Rattle.std.proofs.Common.{pos, ◌+ℤ◌, ◌-ℤ◌, unsigned_abs}
use Rattle.zoned_cron.proofs.Gaps.{IsLeastShown}
use Rattle.zoned_cron.proofs.search.instants.end_of_gap.Given as goal

abbrev pub invariant-loop-second : goal.invariant-loop-second
invariant-loop-second g l = IsLeastShown (g.Z.TimeZone.ahead l.zone) l.fn.gap l.second l.first l.shown

abbrev pub decreases-loop-second : goal.decreases-loop-second
decreases-loop-second g l = unsigned_abs (l.fn.gap +ℤ pos 432_000 -ℤ l.second)
