-- What is written, with the rest folded behind it, is the folded text.
use Rattle.std.proofs.Common.{◌≡◌, ◌+◌, ◌-◌, ◌≤◌, ◌++◌, length, take, drop}
use Rattle.calendar_text.specs.Folds.{folded, folded_behind}
use Rattle.calendar_text.proofs.folds.fold.Given as goal

abbrev pub invariant-loop-at : goal.invariant-loop-at
invariant-loop-at l = record {
  within : l.at ≤ length l.text;
  room : l.len ≤ length l.buffer;
  few : l.column ≤ 75;
  size : length l.buffer ≡ length l.initial.buffer;
  count : l.len + length (folded_behind l.column (drop l.at l.text)) ≡ length (folded l.text);
  same : take l.len l.buffer ++ folded_behind l.column (drop l.at l.text) ≡ folded l.text;
}

abbrev pub decreases-loop-at : goal.decreases-loop-at
decreases-loop-at l = length l.text - l.at
