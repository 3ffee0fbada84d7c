-- This day is a member from the first day on, before the end.
use Rattle.std.proofs.Common.{◌≡◌, true, ◌≤ℤ◌, ◌<ℤ◌}
use Rattle.chrono_datetime.specs.Recurrence.{dates_left}
use Rattle.chrono_rules.specs.Instances.{is_member}
use Rattle.chrono_rules.proofs.rule.Rule.last_between.Given as goal

abbrev pub invariant-loop-member : goal.invariant-loop-member
invariant-loop-member l = (is_member l.self l.fn.start l.last ≡ true) × (l.fn.first ≤ℤ l.last) × (l.last <ℤ l.fn.end)

abbrev pub decreases-loop-member : goal.decreases-loop-member
decreases-loop-member l = dates_left l.last
