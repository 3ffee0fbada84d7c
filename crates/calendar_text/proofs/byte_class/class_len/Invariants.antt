-- The bytes so far are of the class.
use Rattle.std.proofs.Common.{◌≡◌, ◌-◌, ◌<◌, ◌≤◌, ℕ, true, get_or, length}
use Rattle.calendar_text.specs.Lines.{has_class}
use Rattle.calendar_text.proofs.byte_class.class_len.Given as goal

abbrev pub invariant-loop-len : goal.invariant-loop-len
invariant-loop-len l = record {
  within : l.len ≤ length l.text;
  passes : (k : ℕ) → k < l.len → has_class l.class (get_or l.text k 0) ≡ true;
}

abbrev pub decreases-loop-len : goal.decreases-loop-len
decreases-loop-len l = length l.text - l.len
