-- The parts so far are parts of a name, so the rest decides.
use Rattle.std.proofs.Common.{◌≡◌, length}
use Rattle.zone_database.specs.Names.{are_name_parts}
use Rattle.zone_database.proofs.name.are_name_parts.Given as goal

abbrev pub invariant-loop-part : goal.invariant-loop-part
invariant-loop-part l = are_name_parts l.initial.rest ≡ are_name_parts l.rest

abbrev pub decreases-loop-part : goal.decreases-loop-part
decreases-loop-part l = length l.rest
