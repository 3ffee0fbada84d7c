use Rattle.std.proofs.Common.{◌≡◌, ℕ, ◌<◌, ◌≤◌, pos, get_or}
use Rattle.chrono_columns.specs.Columns.{later_entry}
use Rattle.chrono_columns.proofs.moves.add_days_each_in_place.Given as goal

abbrev pub invariant-loop-i : goal.invariant-loop-i
invariant-loop-i l = record {
  moved : (k : ℕ) → k < l.i → get_or l.dates k (pos 0) ≡ later_entry (get_or l.days k (pos 0)) (get_or l.initial.dates k (pos 0));
  left : (k : ℕ) → l.i ≤ k → get_or l.dates k (pos 0) ≡ get_or l.initial.dates k (pos 0);
}
