-- Of the numbers before `number`, those by steps are members, and no others.
use Rattle.std.proofs.Common.{◌≡◌, ℕ, ◌-◌, ◌≤◌, ◌&&◌}
use Rattle.std.specs.Prelude.{nat_lt}
use Rattle.chrono_sets.specs.FiniteSets.{has}
use Rattle.chrono_sets.specs.Steps.{is_by_steps}
use Rattle.chrono_sets.proofs.number_set.NumberSet.by_steps.Given as goal

abbrev pub invariant-loop-number : goal.invariant-loop-number
invariant-loop-number l = (l.fn.first ≤ l.number) × ((k : ℕ) → has l.set k ≡ (is_by_steps l.fn.first l.fn.last l.fn.step k && nat_lt k l.number))

abbrev pub decreases-loop-number : goal.decreases-loop-number
decreases-loop-number l = 64 - l.number
