-- The numbers seen so far are members; with those left it is the set of all.
use Rattle.std.proofs.Common.{◌≡◌, drop}
use Rattle.chrono_sets.specs.FiniteSets.{numbers, with_all}
use Rattle.chrono_sets.proofs.number_set.NumberSet.from_array.Given as goal

abbrev pub invariant-loop-number : goal.invariant-loop-number
invariant-loop-number g l = with_all l.set (drop l.number-index l.fn.list) ≡ numbers l.fn.list
