-- So many days of the rule lie up to this day.
use Rattle.std.proofs.Common.{◌≡◌, ◌≤◌, ◌-◌, pos, ◌+ℤ◌, ◌≤ℤ◌}
use Rattle.chrono_datetime.specs.Recurrence.{count_between}
use Rattle.chrono_rules.specs.Instances.{is_instance}
use Rattle.zoned_rules.proofs.local_rule.LocalRule.count_days.Given as goal

abbrev pub invariant-loop-seen : goal.invariant-loop-seen
invariant-loop-seen l =
    (l.fn.day ≤ℤ l.last) × (l.last ≤ℤ l.end) × (l.seen ≤ l.most) × (l.seen ≡ count_between (is_instance l.self.days l.self.start.date) (l.fn.day +ℤ pos 1) (l.last +ℤ pos 1))

abbrev pub decreases-loop-seen : goal.decreases-loop-seen
decreases-loop-seen l = l.most - l.seen
