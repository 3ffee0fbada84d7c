use Rattle.std.proofs.Common.{◌≡◌, ℕ, ◌<◌, ◌≤◌, ◌-◌, [], length, pos, get_or}
use Rattle.pattern_columns.specs.Layouts.{entry_by, layout_text}
use Rattle.pattern_columns.proofs.texts.write_layout_dates.Given as goal

abbrev pub invariant-loop-begun : goal.invariant-loop-begun
invariant-loop-begun l = record {
  within : l.begun ≤ length l.dates;
  written : (k : ℕ) → k < l.begun → get_or l.texts k [] ≡ entry_by 10 (layout_text l.layout) (get_or l.dates k (pos 0));
}

abbrev pub decreases-loop-begun : goal.decreases-loop-begun
decreases-loop-begun l = length l.dates - l.begun
