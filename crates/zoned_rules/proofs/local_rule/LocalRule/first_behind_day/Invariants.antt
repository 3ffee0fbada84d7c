-- No local time of a later day lies on a day up to this one.
use Rattle.std.proofs.Common.{pos, ◌-ℤ◌, ◌≤ℤ◌, ◌<ℤ◌, unsigned_abs}
use Rattle.chrono_datetime.specs.Moment.{Moment}
use Rattle.zoned_rules.specs.Private.{IsListed}
use Rattle.zoned_rules.proofs.local_rule.LocalRule.first_behind_day.Given as goal

abbrev pub invariant-loop-next : goal.invariant-loop-next
invariant-loop-next l = (l.fn.date ≤ℤ l.day) × ((q : Moment) → IsListed l.self q → l.fn.date <ℤ q.date → l.day <ℤ q.date)

abbrev pub decreases-loop-next : goal.decreases-loop-next
decreases-loop-next l = unsigned_abs (pos 95_745_399 -ℤ l.day)
