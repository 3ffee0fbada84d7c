-- The parts with those of the bytes that are left are those of all bytes.
use Rattle.std.proofs.Common.{◌≡◌, length}
use Rattle.chrono_pattern.specs.NamedParts.{named_from, named_parts}
use Rattle.chrono_pattern.proofs.named_parts.named_parts.Given as goal

abbrev pub invariant-loop-byte : goal.invariant-loop-byte
invariant-loop-byte l = named_from l.state l.rest l.parts ≡ named_parts l.initial.rest

abbrev pub decreases-loop-byte : goal.decreases-loop-byte
decreases-loop-byte l = length l.rest
