-- Each instant of the last two days lies before the second that the search has come to.
use Rattle.std.proofs.Common.{pos, ◌-ℤ◌, ◌≤ℤ◌, unsigned_abs}
use Rattle.zoned_rules.proofs.Candidates.{LieBefore}
use Rattle.zoned_rules.proofs.zoned_rule.ZonedRule.last_near_change.Given as goal

abbrev pub invariant-loop-second : goal.invariant-loop-second
invariant-loop-second g l =
    (l.second ≤ℤ l.fn.end) × ((l.fn.end -ℤ pos 172_800) ≤ℤ l.second)
    × LieBefore l.self.local (g.Z.TimeZone.ahead l.self.zone) (l.fn.end -ℤ pos 172_800) l.fn.end l.second

abbrev pub decreases-loop-second : goal.decreases-loop-second
decreases-loop-second g l = unsigned_abs (l.second -ℤ (l.fn.end -ℤ pos 172_800))
