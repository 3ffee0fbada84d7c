-- The bytes that are left say whether all bytes have an item of the sort.
use Rattle.std.proofs.Common.{◌≡◌, length}
use Rattle.chrono_pattern.specs.Needs.{has_item_of}
use Rattle.chrono_pattern.proofs.needs.has_item_of.Given as goal

abbrev pub invariant-loop-byte : goal.invariant-loop-byte
invariant-loop-byte l = has_item_of l.initial.sort l.state l.rest ≡ has_item_of l.initial.sort l.initial.state l.initial.rest

abbrev pub decreases-loop-byte : goal.decreases-loop-byte
decreases-loop-byte l = length l.rest
