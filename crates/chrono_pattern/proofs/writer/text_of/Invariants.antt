-- What is written, and the text of the bytes that are left, are the text of the pattern.
use Rattle.std.proofs.Common.{◌≡◌, ◌≤◌, ◌++◌, length}
use Rattle.chrono_pattern.specs.Patterns.{text_from}
use Rattle.chrono_pattern.specs.declared.item.State.TheVariants.{Outside}
use Rattle.chrono_pattern.proofs.writer.text_of.Given as goal

abbrev pub invariant-loop-item : goal.invariant-loop-item
invariant-loop-item g l = record {
  whole : l.text ++ text_from Outside l.rest l.fn.moment l.fn.offset ≡ text_from Outside l.initial.rest l.fn.moment l.fn.offset;
  fits : length l.text ≤ g.row.N;
}

abbrev pub decreases-loop-item : goal.decreases-loop-item
decreases-loop-item g l = length l.rest
