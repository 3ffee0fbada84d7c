-- No day so far is a member.
use Rattle.std.proofs.Common.{◌≡◌, false, ℤ, ◌≤ℤ◌, ◌<ℤ◌}
use Rattle.chrono_datetime.specs.Recurrence.{dates_left}
use Rattle.chrono_rules.specs.Instances.{is_member}
use Rattle.chrono_rules.proofs.rule.Rule.first_between.Given as goal

abbrev pub invariant-loop-start : goal.invariant-loop-start
invariant-loop-start l = (l.fn.date ≤ℤ l.day) × (l.fn.start ≤ℤ l.day) × ((d : ℤ) → l.fn.date ≤ℤ d → d <ℤ l.day → is_member l.self l.fn.start d ≡ false)

abbrev pub decreases-loop-start : goal.decreases-loop-start
decreases-loop-start l = dates_left l.day
