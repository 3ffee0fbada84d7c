-- The days so far are no members, and those that pass are counted.
use Rattle.std.proofs.Common.{◌≡◌, false, ℤ, pos, ◌+ℤ◌, ◌-ℤ◌, ◌≤ℤ◌, ◌<ℤ◌, unsigned_abs}
use Rattle.chrono_datetime.specs.Recurrence.{count_between}
use Rattle.chrono_rules.specs.ByParts.{date_passes}
use Rattle.chrono_rules.specs.Instances.{is_member}
use Rattle.chrono_rules.proofs.rule.Rule.days_to_position.Given as goal

abbrev pub invariant-loop-later : goal.invariant-loop-later
invariant-loop-later l = record {
  low : pos 0 ≤ℤ l.later;
  high : l.later ≤ℤ l.end;
  count : l.passed ≡ count_between (date_passes l.self l.fn.start) l.fn.day (l.fn.day +ℤ l.later);
  few : pos l.passed ≤ℤ l.later;
  none : (d : ℤ) → l.fn.day ≤ℤ d → d <ℤ (l.fn.day +ℤ l.later) → is_member l.self l.fn.start d ≡ false;
}

abbrev pub decreases-loop-later : goal.decreases-loop-later
decreases-loop-later l = unsigned_abs (l.end -ℤ l.later)
