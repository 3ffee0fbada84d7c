-- None of the times lies from this second up to the end.
use Rattle.std.proofs.Common.{◌≤◌}
use Rattle.chrono_datetime.specs.PassedOver.{PassedNumbers}
use Rattle.zoned_rules.specs.LocalTimes.{is_counted_time}
use Rattle.zoned_rules.proofs.local_rule.LocalRule.last_time.Given as goal

abbrev pub invariant-loop-behind : goal.invariant-loop-behind
invariant-loop-behind l = (l.behind ≤ l.fn.end) × PassedNumbers (is_counted_time l.self l.date) l.behind l.fn.end

abbrev pub decreases-loop-behind : goal.decreases-loop-behind
decreases-loop-behind l = l.behind
