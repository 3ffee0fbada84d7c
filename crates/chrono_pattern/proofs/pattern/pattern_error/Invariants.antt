-- The first error of the bytes that are left is that of all bytes, and the place counts those that are read.
use Rattle.std.proofs.Common.{◌≡◌, ◌+◌, length}
use Rattle.chrono_pattern.specs.Patterns.{error_from}
use Rattle.chrono_pattern.proofs.pattern.pattern_error.Given as goal

abbrev pub invariant-loop-byte : goal.invariant-loop-byte
invariant-loop-byte l = record {
  same : error_from l.state l.begun l.place l.rest ≡ error_from l.initial.state l.initial.begun l.initial.place l.initial.rest;
  count : l.place + length l.rest ≡ length l.initial.rest;
}

abbrev pub decreases-loop-byte : goal.decreases-loop-byte
decreases-loop-byte l = length l.rest
