-- The members before `from` are counted, and before each day up to it they are fewer than `most`.
use Rattle.std.proofs.Common.{◌≡◌, ◌≤◌, ◌<◌, ℤ, ◌-ℤ◌, ◌≤ℤ◌, ◌<ℤ◌, unsigned_abs}
use Rattle.chrono_datetime.specs.Recurrence.{count_between}
use Rattle.chrono_rules.specs.Instances.{is_member}
use Rattle.chrono_rules.proofs.rule.Rule.members_from.Given as goal

abbrev pub invariant-loop-count : goal.invariant-loop-count
invariant-loop-count l = record {
  low : l.fn.start ≤ℤ l.from;
  high : l.from ≤ℤ l.fn.end;
  counted : l.count ≡ count_between (is_member l.self l.fn.start) l.fn.start l.from;
  few : l.count ≤ l.fn.most;
  fewer : (d : ℤ) → l.fn.start ≤ℤ d → d <ℤ l.from → count_between (is_member l.self l.fn.start) l.fn.start d < l.fn.most;
}

abbrev pub decreases-loop-count : goal.decreases-loop-count
decreases-loop-count l = unsigned_abs (l.fn.end -ℤ l.from)
