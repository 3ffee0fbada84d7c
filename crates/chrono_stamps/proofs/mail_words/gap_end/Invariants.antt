-- What stands behind the white space and the comments of the text stands behind those of the rest.
use Rattle.std.proofs.Common.{◌≡◌, ◌+◌, ◌≤◌, length}
use Rattle.chrono_stamps.specs.MailWords.{gap_end}
use Rattle.chrono_stamps.proofs.mail_words.gap_end.Given as goal

abbrev pub invariant-loop-byte : goal.invariant-loop-byte
invariant-loop-byte l = record {
  same : gap_end l.state.0 l.state.1 l.rest ≡ gap_end l.initial.state.0 l.initial.state.1 l.initial.rest;
  room : l.state.0 + length l.rest ≤ l.initial.state.0 + length l.initial.rest;
}

abbrev pub decreases-loop-byte : goal.decreases-loop-byte
decreases-loop-byte l = length l.rest
