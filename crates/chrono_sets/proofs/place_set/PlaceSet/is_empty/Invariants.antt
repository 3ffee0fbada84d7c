-- The words seen so far have a digit if the words or'ed together have one.
use Rattle.std.proofs.Common.{◌≡◌, ◌==◌, ◌&&◌, drop}
use Rattle.chrono_sets.specs.Words.{joined}
use Rattle.chrono_sets.proofs.place_set.PlaceSet.is_empty.Given as goal

abbrev pub invariant-loop-word : goal.invariant-loop-word
invariant-loop-word l = ((l.all == 0) && (joined (drop l.word-index l.word-items) == 0)) ≡ (joined l.word-items == 0)
