-- What is left of the pattern reads from what is left of the text as the whole pattern reads from the whole text.
use Rattle.std.proofs.Common.{◌≡◌, length}
use Rattle.chrono_pattern.specs.Reads.{read_from}
use Rattle.chrono_pattern.specs.declared.item.State.TheVariants.{Outside}
use Rattle.chrono_pattern.proofs.reader.read_front.Given as goal

abbrev pub invariant-loop-item : goal.invariant-loop-item
invariant-loop-item l = read_from Outside l.rest l.reader ≡ read_from Outside l.initial.rest l.initial.reader

abbrev pub decreases-loop-item : goal.decreases-loop-item
decreases-loop-item l = length l.rest
