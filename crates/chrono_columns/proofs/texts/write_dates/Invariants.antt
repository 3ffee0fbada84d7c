use Rattle.std.proofs.Common.{◌≡◌, ◌≤◌, ◌-◌, length, take, map}
use Rattle.chrono_columns.specs.Columns.{text_entry}
use Rattle.chrono_columns.proofs.texts.write_dates.Given as goal

abbrev pub invariant-loop-begun : goal.invariant-loop-begun
invariant-loop-begun l = record {
  within : l.begun ≤ length l.dates;
  written : take l.begun l.texts ≡ map text_entry (take l.begun l.dates);
}

abbrev pub decreases-loop-begun : goal.decreases-loop-begun
decreases-loop-begun l = length l.dates - l.begun
