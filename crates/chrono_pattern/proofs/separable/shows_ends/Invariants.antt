-- The bytes that are left say whether all bytes show where their items end.
use Rattle.std.proofs.Common.{◌≡◌, length}
use Rattle.chrono_pattern.specs.Separable.{is_separable_from}
use Rattle.chrono_pattern.proofs.separable.shows_ends.Given as goal

abbrev pub invariant-loop-byte : goal.invariant-loop-byte
invariant-loop-byte l = is_separable_from l.initial.wide l.state l.bar l.rest ≡ is_separable_from l.initial.wide l.initial.state l.initial.bar l.initial.rest

abbrev pub decreases-loop-byte : goal.decreases-loop-byte
decreases-loop-byte l = length l.rest
