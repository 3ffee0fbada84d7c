-- What is written, with what is left of the rest, is the unfolded text.
use Rattle.std.proofs.Common.{◌≡◌, ◌-◌, ◌≤◌, ◌++◌, length, take, drop}
use Rattle.calendar_text.specs.Folds.{unfolded, unfolded_behind}
use Rattle.calendar_text.proofs.folds.unfold.Given as goal

abbrev pub invariant-loop-at : goal.invariant-loop-at
invariant-loop-at l = record {
  within : l.at ≤ length l.text;
  fewer : l.len ≤ l.at;
  size : length l.buffer ≡ length l.initial.buffer;
  same : take l.len l.buffer ++ unfolded_behind l.before (drop l.at l.text) ≡ unfolded l.text;
}

abbrev pub decreases-loop-at : goal.decreases-loop-at
decreases-loop-at l = length l.text - l.at
