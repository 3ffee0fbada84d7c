-- So many days of the rule lie up to this day.
use Rattle.std.proofs.Common.{◌≡◌, ◌≤◌, pos, ◌+ℤ◌, ◌≤ℤ◌}
use Rattle.chrono_datetime.specs.Recurrence.{count_between}
use Rattle.chrono_rules.specs.Instances.{is_instance}
use Rattle.zoned_rules.proofs.local_rule.LocalRule.pass_days.Given as goal

abbrev pub invariant-loop-step : goal.invariant-loop-step
invariant-loop-step l =
    (l.fn.day ≤ℤ l.last) × (l.last ≤ℤ l.fn.end) × (l.seen ≤ l.fn.most) × (l.seen ≡ count_between (is_instance l.self.days l.self.start.date) (l.fn.day +ℤ pos 1) (l.last +ℤ pos 1))

abbrev pub decreases-loop-step : goal.decreases-loop-step
decreases-loop-step l = l.step
