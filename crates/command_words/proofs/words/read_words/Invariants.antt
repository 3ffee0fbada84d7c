-- What is read so far, and the words that are left.
use Rattle.std.proofs.Common.{◌≡◌, [], map, length}
use Rattle.command_words.specs.Arguments.{free, got, mode_of, read, seen}
use Rattle.command_words.proofs.words.read_words.Given as goal

abbrev pub invariant-loop-rest : goal.invariant-loop-rest
invariant-loop-rest l =
    read l.table ([], []) free (map seen l.words) ≡ read l.table (got l.found.operands.items l.found.options.items) (mode_of l.mode) (map seen l.rest)

abbrev pub decreases-loop-rest : goal.decreases-loop-rest
decreases-loop-rest l = length l.rest
