-- No second of the set lies between the end and this second.
use Rattle.std.proofs.Common.{ℤ, pos, neg_ℤ, ◌+ℤ◌, ◌≤ℤ◌, ◌<ℤ◌, unsigned_abs}
use Rattle.zoned_rules.specs.ZonedSets.{IsInZonedSet}
use Rattle.zoned_rules.proofs.zoned_recurrence.ZonedRecurrence.last_member.Given as goal

abbrev pub invariant-loop-previous : goal.invariant-loop-previous
invariant-loop-previous g l =
    (l.second ≤ℤ l.fn.end) × (neg_ℤ (pos 8_334_601_228_800) ≤ℤ l.second) × (l.second ≤ℤ pos 8_210_266_876_800)
    × ((u : ℤ) → u <ℤ l.fn.end → IsInZonedSet l.self.rule.local (g.Z.TimeZone.ahead l.self.rule.zone) l.self.rule.bound l.self.dates.now l.self.exceptions.now u → u <ℤ l.second)

abbrev pub decreases-loop-previous : goal.decreases-loop-previous
decreases-loop-previous g l = unsigned_abs (l.second +ℤ pos 8_334_601_228_801)
