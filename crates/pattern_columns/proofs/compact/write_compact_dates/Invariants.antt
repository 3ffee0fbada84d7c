use Rattle.std.proofs.Common.{◌≡◌, ℕ, ◌<◌, ◌≤◌, ◌-◌, [], length, pos, get_or}
use Rattle.pattern_columns.specs.Layouts.{compact_text, entry_by}
use Rattle.pattern_columns.proofs.compact.write_compact_dates.Given as goal

abbrev pub invariant-loop-begun : goal.invariant-loop-begun
invariant-loop-begun l = record {
  within : l.begun ≤ length l.dates;
  written : (k : ℕ) → k < l.begun → get_or l.texts k [] ≡ entry_by 8 compact_text (get_or l.dates k (pos 0));
}

abbrev pub decreases-loop-begun : goal.decreases-loop-begun
decreases-loop-begun l = length l.dates - l.begun
