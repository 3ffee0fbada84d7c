-- So many bytes are as the form says.
use Rattle.std.proofs.Common.{◌≡◌, ◌+◌, ◌-◌, ◌≤◌, drop, length}
use Rattle.chrono_reading.specs.Fitting.{fitting}
use Rattle.chrono_reading.proofs.fitting.fitting_len.Given as goal

abbrev pub invariant-loop-len : goal.invariant-loop-len
invariant-loop-len l = record {
  in_form : l.len ≤ length l.form;
  in_text : l.len ≤ length l.text;
  rest : fitting l.form l.text ≡ l.len + fitting (drop l.len l.form) (drop l.len l.text);
}

abbrev pub decreases-loop-len : goal.decreases-loop-len
decreases-loop-len l = length l.form - l.len
