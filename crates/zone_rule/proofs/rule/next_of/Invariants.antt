use Rattle.std.proofs.Common.{◌≡◌, pos, ◌+ℤ◌, ◌-ℤ◌, ◌≤ℤ◌, unsigned_abs}
use Rattle.zone_rule.specs.Changes.{change_second}
use Rattle.zone_rule.proofs.rule.next_of.Given as goal

abbrev pub decreases-loop-next : goal.decreases-loop-next
decreases-loop-next l = unsigned_abs (l.fn.year +ℤ pos 3 -ℤ l.at)

abbrev pub invariant-loop-next : goal.invariant-loop-next
invariant-loop-next l = (l.fn.year ≤ℤ (l.at +ℤ pos 1)) × (l.at ≤ℤ (l.fn.year +ℤ pos 2)) × (change_second l.offset l.change l.at ≡ l.next) × (change_second l.offset l.change (l.at -ℤ pos 1) ≤ℤ l.second)
