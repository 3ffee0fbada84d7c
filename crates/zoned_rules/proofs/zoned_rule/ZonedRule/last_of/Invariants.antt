-- So many seconds at which the rule recurs were seen, up to this one.
use Rattle.std.proofs.Common.{◌≤◌, ◌-◌, pos, neg_ℤ, ◌≤ℤ◌}
use Rattle.zoned_rules.specs.Recurs.{Recurs}
use Rattle.zoned_rules.specs.Private.{AreBehind}
use Rattle.zoned_rules.proofs.zoned_rule.ZonedRule.last_of.Given as goal

abbrev pub invariant-loop-seen : goal.invariant-loop-seen
invariant-loop-seen g l =
    (l.seen ≤ l.count) × AreBehind (Recurs l.self.local (g.Z.TimeZone.ahead l.self.zone)) l.seen (neg_ℤ (pos 8_334_601_228_801)) l.second × (neg_ℤ (pos 8_334_601_228_801) ≤ℤ l.second) × (l.second ≤ℤ pos 8_210_266_876_799)

abbrev pub decreases-loop-seen : goal.decreases-loop-seen
decreases-loop-seen g l = l.count - l.seen
