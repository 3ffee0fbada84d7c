-- The days looked at so far, from the period's end back, are no members but for the first that has a named place; those that pass are counted.
use Rattle.std.proofs.Common.{◌≡◌, false, ℤ, pos, ◌+ℤ◌, ◌-ℤ◌, ◌≤ℤ◌, ◌<ℤ◌, unsigned_abs}
use Rattle.chrono_datetime.specs.Recurrence.{count_between}
use Rattle.chrono_rules.specs.ByParts.{date_passes}
use Rattle.chrono_rules.specs.Instances.{is_member}
use Rattle.chrono_rules.proofs.rule.Rule.days_to_place_from_end.Given as goal

abbrev pub invariant-loop-later : goal.invariant-loop-later
invariant-loop-later l = record {
  low : pos 0 ≤ℤ l.later;
  order : l.later ≤ℤ l.first;
  high : l.first ≤ℤ l.fn.end;
  count : l.place ≡ count_between (date_passes l.self l.fn.start) (l.fn.day +ℤ l.later) (l.fn.day +ℤ l.fn.end);
  few : pos l.place ≤ℤ (l.fn.end -ℤ l.later);
  none : (d : ℤ) → (l.fn.day +ℤ l.later) ≤ℤ d → d <ℤ (l.fn.day +ℤ l.first) → is_member l.self l.fn.start d ≡ false;
}

abbrev pub decreases-loop-later : goal.decreases-loop-later
decreases-loop-later l = unsigned_abs l.later
