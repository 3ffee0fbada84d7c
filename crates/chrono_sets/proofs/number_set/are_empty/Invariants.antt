-- The sets seen so far have a member if all of these together have one.
use Rattle.std.proofs.Common.{◌≡◌, ◌&&◌, drop}
use Rattle.chrono_sets.specs.FiniteSets.{are_empty, is_empty}
use Rattle.chrono_sets.proofs.number_set.are_empty.Given as goal

abbrev pub invariant-loop-set : goal.invariant-loop-set
invariant-loop-set l = (is_empty l.all && are_empty (drop l.set-index l.sets)) ≡ are_empty l.sets
