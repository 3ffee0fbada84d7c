-- So many bytes are those of the name.
use Rattle.std.proofs.Common.{◌≡◌, ◌+◌, ◌-◌, ◌≤◌, drop, length}
use Rattle.chrono_reading.specs.NameErrors.{in_common}
use Rattle.chrono_reading.proofs.name.in_common.Given as goal

abbrev pub invariant-loop-len : goal.invariant-loop-len
invariant-loop-len l = record {
  in_name : l.len ≤ length l.name;
  in_text : l.len ≤ length l.text;
  rest : in_common l.name l.text ≡ l.len + in_common (drop l.len l.name) (drop l.len l.text);
}

abbrev pub decreases-loop-len : goal.decreases-loop-len
decreases-loop-len l = length l.name - l.len
