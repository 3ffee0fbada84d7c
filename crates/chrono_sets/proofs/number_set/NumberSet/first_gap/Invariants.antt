-- All numbers so far are members.
use Rattle.std.proofs.Common.{◌-◌, ◌≡◌, ◌<◌, ◌≤◌, ℕ, true}
use Rattle.chrono_sets.specs.FiniteSets.{has}
use Rattle.chrono_sets.proofs.number_set.NumberSet.first_gap.Given as goal

abbrev pub invariant-loop-number : goal.invariant-loop-number
invariant-loop-number l = record {
  not_before : l.fn.from ≤ l.number;
  within : l.number ≤ l.fn.end;
  members : (k : ℕ) → l.fn.from ≤ k → k < l.number → has l.fn.self k ≡ true;
}

abbrev pub decreases-loop-number : goal.decreases-loop-number
decreases-loop-number l = l.end - l.number
