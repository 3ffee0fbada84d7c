-- The options so far have another name.
use Rattle.std.proofs.Common.{◌≡◌, map, length}
use Rattle.command_words.specs.Arguments.{first_value, pair}
use Rattle.command_words.proofs.given.first_value.Given as goal

abbrev pub invariant-loop-rest : goal.invariant-loop-rest
invariant-loop-rest l = first_value l.name (map pair l.options) ≡ first_value l.name (map pair l.rest)

abbrev pub decreases-loop-rest : goal.decreases-loop-rest
decreases-loop-rest l = length l.rest
