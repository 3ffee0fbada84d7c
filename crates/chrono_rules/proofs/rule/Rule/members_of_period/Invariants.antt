-- The days so far are counted, those that pass and those that are members, and before each of them came fewer members than `most`.
use Rattle.std.proofs.Common.{◌≡◌, ◌≤◌, ◌<◌, ℤ, pos, ◌+ℤ◌, ◌-ℤ◌, ◌≤ℤ◌, ◌<ℤ◌, unsigned_abs}
use Rattle.chrono_datetime.specs.Recurrence.{count_between}
use Rattle.chrono_rules.specs.ByParts.{date_passes}
use Rattle.chrono_rules.specs.Instances.{is_member}
use Rattle.chrono_rules.proofs.rule.Rule.members_of_period.Given as goal

abbrev pub invariant-loop-later : goal.invariant-loop-later
invariant-loop-later l = record {
  low : pos 0 ≤ℤ l.later;
  high : l.later ≤ℤ l.stop;
  passed : l.count.passed ≡ count_between (date_passes l.self l.fn.start) l.fn.day (l.fn.day +ℤ l.later);
  few : pos l.count.passed ≤ℤ l.later;
  members : l.count.members ≡ count_between (is_member l.self l.fn.start) l.fn.start (l.fn.day +ℤ l.later);
  most : l.count.members ≤ l.fn.most;
  fewer : (d : ℤ) → l.fn.day ≤ℤ d → d <ℤ (l.fn.day +ℤ l.later) → count_between (is_member l.self l.fn.start) l.fn.start d < l.fn.most;
}

abbrev pub decreases-loop-later : goal.decreases-loop-later
decreases-loop-later l = unsigned_abs (l.stop -ℤ l.later)
