-- Each instant behind the start lies behind the second that the search has come to.
use Rattle.std.proofs.Common.{pos, ◌-ℤ◌, ◌≤ℤ◌, unsigned_abs}
use Rattle.zoned_rules.proofs.Candidates.{LieBehind}
use Rattle.zoned_rules.proofs.zoned_rule.ZonedRule.first_near_change.Given as goal

abbrev pub invariant-loop-second : goal.invariant-loop-second
invariant-loop-second g l =
    (l.fn.after ≤ℤ l.second) × (l.second ≤ℤ pos 8_210_266_963_199)
    × LieBehind l.self.local (g.Z.TimeZone.ahead l.self.zone) l.fn.after l.until l.second

abbrev pub decreases-loop-second : goal.decreases-loop-second
decreases-loop-second g l = unsigned_abs (l.until -ℤ l.second)
