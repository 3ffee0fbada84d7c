-- No day behind this one is a member.
use Rattle.std.proofs.Common.{◌≡◌, false, ℤ, ◌≤ℤ◌, ◌<ℤ◌}
use Rattle.chrono_datetime.specs.Recurrence.{dates_before}
use Rattle.chrono_rules.specs.Instances.{is_member}
use Rattle.chrono_rules.proofs.rule.Rule.last_from.Given as goal

abbrev pub invariant-loop-start : goal.invariant-loop-start
invariant-loop-start l = (l.behind ≤ℤ l.fn.top) × ((d : ℤ) → l.behind ≤ℤ d → d <ℤ l.fn.top → is_member l.self l.fn.start d ≡ false)

abbrev pub decreases-loop-start : goal.decreases-loop-start
decreases-loop-start l = dates_before l.behind
