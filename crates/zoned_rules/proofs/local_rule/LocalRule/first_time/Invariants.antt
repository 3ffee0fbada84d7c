-- None of the times lies from the first second up to this one.
use Rattle.std.proofs.Common.{◌≤◌, ◌-◌}
use Rattle.chrono_datetime.specs.PassedOver.{PassedNumbers}
use Rattle.zoned_rules.specs.LocalTimes.{is_counted_time}
use Rattle.zoned_rules.proofs.local_rule.LocalRule.first_time.Given as goal

abbrev pub invariant-loop-second : goal.invariant-loop-second
invariant-loop-second l = (l.fn.from ≤ l.second) × (l.second ≤ 86_400) × PassedNumbers (is_counted_time l.self l.date) l.fn.from l.second

abbrev pub decreases-loop-second : goal.decreases-loop-second
decreases-loop-second l = 86_400 - l.second
