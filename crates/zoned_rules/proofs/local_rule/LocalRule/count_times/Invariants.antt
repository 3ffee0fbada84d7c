-- So many times of the day lie before this second.
use Rattle.std.proofs.Common.{◌≡◌, ◌≤◌, ◌-◌}
use Rattle.zoned_rules.specs.LocalTimes.{is_counted_time}
use Rattle.zoned_rules.specs.Private.{count_below}
use Rattle.zoned_rules.proofs.local_rule.LocalRule.count_times.Given as goal

abbrev pub invariant-loop-second : goal.invariant-loop-second
invariant-loop-second l =
    (l.from ≤ 86_400) × (l.count ≤ l.from) × (l.count ≡ count_below (is_counted_time l.self l.date) l.from)

abbrev pub decreases-loop-second : goal.decreases-loop-second
decreases-loop-second l = 86_400 - l.from
