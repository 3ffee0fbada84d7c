-- No local time of an earlier day lies on a day from this one on.
use Rattle.std.proofs.Common.{pos, ◌+ℤ◌, ◌≤ℤ◌, ◌<ℤ◌, unsigned_abs}
use Rattle.chrono_datetime.specs.Moment.{Moment}
use Rattle.zoned_rules.specs.Private.{IsListed}
use Rattle.zoned_rules.proofs.local_rule.LocalRule.last_in_front_of_day.Given as goal

abbrev pub invariant-loop-previous : goal.invariant-loop-previous
invariant-loop-previous l = (l.day ≤ℤ l.fn.date) × ((q : Moment) → IsListed l.self q → q.date <ℤ l.fn.date → q.date <ℤ l.day)

abbrev pub decreases-loop-previous : goal.decreases-loop-previous
decreases-loop-previous l = unsigned_abs (l.day +ℤ pos 95_746_136)
