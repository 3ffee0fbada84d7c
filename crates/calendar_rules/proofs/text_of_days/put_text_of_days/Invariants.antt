-- What is written, with the parts of the rest behind it, is all parts; and there is room for them.
use Rattle.std.proofs.Common.{◌≡◌, ◌+◌, ◌<◌, ◌++◌, length, take}
use Rattle.calendar_rules.specs.TimedRuleTexts.{text_of_days}
use Rattle.calendar_rules.proofs.text_of_days.put_text_of_days.Given as goal

abbrev pub invariant-loop-buffer : goal.invariant-loop-buffer
invariant-loop-buffer l = record {
  room : l.len + length l.rest < length l.buffer;
  size : length l.buffer ≡ length l.initial.buffer;
  same : take l.len l.buffer ++ text_of_days l.rest ≡ text_of_days l.initial.rest;
}

abbrev pub decreases-loop-buffer : goal.decreases-loop-buffer
decreases-loop-buffer l = length l.rest
