-- No second of the set lies between the start and this second.
use Rattle.std.proofs.Common.{ℤ, pos, neg_ℤ, ◌-ℤ◌, ◌≤ℤ◌, ◌<ℤ◌, unsigned_abs}
use Rattle.zoned_rules.specs.ZonedSets.{IsInZonedSet}
use Rattle.zoned_rules.proofs.zoned_recurrence.ZonedRecurrence.first_member.Given as goal

abbrev pub invariant-loop-next : goal.invariant-loop-next
invariant-loop-next g l =
    (l.fn.start ≤ℤ l.second) × (neg_ℤ (pos 8_334_601_300_000) ≤ℤ l.second) × (l.second ≤ℤ pos 8_210_266_876_799)
    × ((u : ℤ) → l.fn.start <ℤ u → IsInZonedSet l.self.rule.local (g.Z.TimeZone.ahead l.self.rule.zone) l.self.rule.bound l.self.dates.now l.self.exceptions.now u → l.second <ℤ u)

abbrev pub decreases-loop-next : goal.decreases-loop-next
decreases-loop-next g l = unsigned_abs (pos 8_210_266_876_799 -ℤ l.second)
