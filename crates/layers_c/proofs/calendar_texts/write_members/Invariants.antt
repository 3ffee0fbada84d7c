-- What is written, and what is to be written behind it, are all instants.
use Rattle.std.proofs.Common.{◌≡◌, ◌≤◌, ◌-◌, length, drop}
use Rattle.layers_c.proofs.ListedInstants.{IsBegun}
use Rattle.layers_c.proofs.calendar_texts.write_members.Given as goal

abbrev pub invariant-loop-count : goal.invariant-loop-count
invariant-loop-count g l = record {
  within : l.count ≤ length l.initial.out;
  size : length l.out ≡ length l.initial.out;
  rest : drop l.count l.out ≡ drop l.count l.initial.out;
  begun : IsBegun (g.Z.TimeZone.ahead) l.set l.initial.last.utc l.until (length l.initial.out) l.last.utc l.count l.out;
}

abbrev pub decreases-loop-count : goal.decreases-loop-count
decreases-loop-count g l = length l.initial.out - l.count
