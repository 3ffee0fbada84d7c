-- What is written, with the lines of the rest behind it, is all lines.
use Rattle.std.proofs.Common.{◌≡◌, ◌+◌, ◌≤◌, ◌++◌, length, take}
use Rattle.calendar_text.specs.Lines.{text_in}
use Rattle.calendar_text.specs.WrittenCalendars.{times_text}
use Rattle.calendar_text.proofs.calendar_lines.put_times.Given as goal

abbrev pub invariant-loop-time : goal.invariant-loop-time
invariant-loop-time l = record {
  room : l.end ≤ length l.buffer;
  size : length l.buffer ≡ length l.initial.buffer;
  count : l.end + length (times_text l.property (text_in l.zone) l.rest) ≡ l.len + length (times_text l.property (text_in l.zone) l.initial.rest);
  same : take l.end l.buffer ++ times_text l.property (text_in l.zone) l.rest ≡ take l.len l.initial.buffer ++ times_text l.property (text_in l.zone) l.initial.rest;
}

abbrev pub decreases-loop-time : goal.decreases-loop-time
decreases-loop-time l = length l.rest
