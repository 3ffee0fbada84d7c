-- So many bytes of the text are put.
use Rattle.std.proofs.Common.{◌≡◌, ◌≤◌, ◌-◌, ◌++◌, take}
use Rattle.chrono_text.proofs.text.Text.push_text_if.Given as goal

abbrev pub invariant-loop-put : goal.invariant-loop-put
invariant-loop-put g l = record {
  within : l.put ≤ g.row.M;
  text : l.self ≡ l.fn.self ++ take l.put l.text;
}

abbrev pub decreases-loop-put : goal.decreases-loop-put
decreases-loop-put g l = g.row.M - l.put
